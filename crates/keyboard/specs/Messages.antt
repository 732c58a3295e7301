-- KEYBOARD MESSAGES (02, request 1). What the operator types, `DWN Ccc Uuu`, `AVL Ccc Uuu`, `SEL jrid` or `DEL jrid`,
-- and what it asks for, by words and fields. Any bytes are a message. A reader has to believe this page.
use Rattle.std.specs.Prelude.{ℕ, Bool, true, false, cond, not, ◌&&◌, ◌||◌, List, [], ◌∷◌, eqb, ltb, leb, length, get_or, drop, Result, Ok, Err}
use Rattle.numbers.specs.Quoted.{byte, bytes}
use Rattle.text.specs.Class.{is_digit}
use Rattle.words.specs.Words.{every, same, value}
use Rattle.line_words.specs.Forms.{id_of}
use Rattle.line_words.specs.Forms as Forms
use Rattle.keyboard.specs.declared.Word.{Word}
use Rattle.keyboard.specs.declared.Word.TheVariants.{Dwn, Avl, Sel, Del}
use Rattle.keyboard.specs.declared.Fault.{Fault}
use Rattle.keyboard.specs.declared.Fault.TheVariants.{NoLength, UnitTooLarge, NotADigit, ChannelTooLarge}
use Rattle.keyboard.specs.declared.Asked.{Asked}
use Rattle.keyboard.specs.declared.Asked.TheVariants.{Unknown, Wrong, Mark, Release, Delete}
use Rattle.keyboard.specs.declared.Message.{Message}

-- ---- words

-- the pieces of a text that are not empty
abbrev pub filled : List (List ℕ) → List (List ℕ)
filled [] = []
filled (word ∷ words) = cond (ltb 0 (length word)) (word ∷ filled words) (filled words)

-- "spaces as separators": the words are the runs of bytes that are not spaces. So spaces before, after and between
-- them, however many, mean nothing
unfoldable pub message_words : List ℕ → List (List ℕ)
message_words message = filled (Forms.words_of message)

-- "text after the last makes the message unknown": the first word is this one, and with its fields there are at most
-- so many
unfoldable pub is_message : List ℕ → ℕ → List (List ℕ) → Bool
is_message mc most words = same (get_or words 0 []) mc && leb (length words) most

-- ---- fields

-- "Error codes are the bulletin's common ones"
abbrev pub fault_number : Fault → ℕ
-- a field of no length
fault_number NoLength = 1
-- unit number too large
fault_number UnitTooLarge = 5
-- a nondigit in a number
fault_number NotADigit = 10
-- channel number too large
fault_number ChannelTooLarge = 12

-- a channel or unit number over 15 is too large, "since our cell ends at 15" and so do the units of a channel
abbrev pub up_to15 : ℕ → Fault → Result ℕ Fault
up_to15 n too_large = cond (ltb 15 n) (Err too_large) (Ok n)

-- a field `Ccc` or `Uuu`, its letter and what is wrong with a number over 15. "one missing or without its C or U as of
-- no length", and so is one with nothing after it. Then "10 before 5 and 12". The number is the value of the digits,
-- however many there are
unfoldable pub number_field : ℕ → Fault → List ℕ → Result ℕ Fault
number_field letter too_large field =
    cond (leb (length field) 1 || not (eqb (get_or field 0 0) letter)) (Err NoLength)
    (cond (not (every is_digit (drop 1 field))) (Err NotADigit)
    (up_to15 (value (drop 1 field)) too_large))

-- the unit field, where nothing is wrong with the channel field
abbrev pub after_channel : Word → Bool → ℕ → Result ℕ Fault → Asked
after_channel word on channel (Ok unit) = Mark (record { 0 = channel }) (record { 0 = unit }) on
after_channel word on channel (Err fault) = Wrong word fault

-- "Fields are looked at left to right": the channel field, and only where nothing is wrong with it the unit field
abbrev pub channel_then : Word → Bool → Result ℕ Fault → Result ℕ Fault → Asked
channel_then word on (Ok channel) unit = after_channel word on channel unit
channel_then word on (Err fault) unit = Wrong word fault

-- "`Ccc Uuu` naming a unit"; a word that is missing is empty
unfoldable pub on_unit : Word → Bool → List (List ℕ) → Asked
on_unit word on words =
    channel_then word on (number_field (byte "C") ChannelTooLarge (get_or words 1 [])) (number_field (byte "U") UnitTooLarge (get_or words 2 []))

-- `jrid`: missing, it is of no length; any other word names the request that has it as its ID
unfoldable pub on_request : Word → Asked → List (List ℕ) → Asked
on_request word call words = cond (eqb (length (get_or words 1 [])) 0) (Wrong word NoLength) call

-- ---- messages

-- what is asked for, with the ID that a word writes
abbrev pub saying : Asked → List ℕ → Message
saying asks word = record { asks = asks; id = id_of word }

-- "`DWN` sets the down mark and `AVL` clears it; `SEL` releases a suspended request and `DEL` deletes one". Any other
-- message is unknown, "checked before everything else"
unfoldable pub message_of : List (List ℕ) → Message
message_of words =
    cond (is_message (bytes "DWN") 3 words) (saying (on_unit Dwn true words) [])
    (cond (is_message (bytes "AVL") 3 words) (saying (on_unit Avl false words) [])
    (cond (is_message (bytes "SEL") 2 words) (saying (on_request Sel Release words) (get_or words 1 []))
    (cond (is_message (bytes "DEL") 2 words) (saying (on_request Del Delete words) (get_or words 1 []))
    (saying Unknown []))))

-- WHAT A MESSAGE ASKS FOR
abbrev pub read_message : List ℕ → Message
read_message message = message_of (message_words message)
