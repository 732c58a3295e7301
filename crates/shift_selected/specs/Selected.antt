-- What a selection answers: `ACK p id ` and the assignment; and the word for a part that is lacking.
use Rattle.std.specs.Prelude.{ℕ, ◌+◌, ◌*◌, ◌/◌, ◌%◌, Bool, false, cond, ◌&&◌, Option, Some, None, List, [], ◌++◌, eqb, get_or}
use Rattle.numbers.specs.Quoted.{bytes}
use Rattle.numbers.specs.Kinds.{code_of, row_of, unit_kinds, kind_at, order_of}
use Rattle.numbers.specs.declared.Kind.{Kind}
use Rattle.numbers.specs.declared.LogicalChannel.{LogicalChannel}
use Rattle.text.specs.Writing.{decimal_text}
use Rattle.cards_fields.specs.Fields.{spaceless}
use Rattle.cards_request.specs.declared.Facilities.{Facilities}
use Rattle.cards_request.specs.declared.Request.{Request}
use Rattle.channels.specs.Channels.{no_channel}
use Rattle.channels.specs.declared.Fitted.{Fitted}
use Rattle.channels.specs.declared.Channel.{Channel}
use Rattle.assign_heads.specs.Whose.{logical, blank}
use Rattle.assign_heads.specs.declared.Head.{Head}
use Rattle.assign.specs.declared.Assigned.{Assigned}
use Rattle.assign.specs.declared.Part.{Part}
use Rattle.assign.specs.declared.Part.TheVariants.{Core, Drum, Units}
use Rattle.answer_pieces.specs.Pieces.{unit_text, span_text, each}

-- a run of blocks or words behind its code, first and last, "if asked for"
abbrev pub run_text : List ℕ → ℕ → ℕ → List ℕ
run_text code first count = cond (eqb count 0) [] (code ++ span_text first count)

abbrev pub areas_text : Facilities → ℕ → ℕ → ℕ → List ℕ
areas_text wanted ib db drum =
    run_text (bytes " IB ") ib wanted.ib ++ (run_text (bytes " DB ") db wanted.db ++ run_text (bytes " MD ") drum wanted.md)

-- a channel is of a kind
abbrev pub is_kind_of : Kind → Option Fitted → Bool
is_kind_of kind None = false
is_kind_of kind (Some on) = eqb (row_of on.kind) (row_of kind)

abbrev pub is_of_kind : Kind → Channel → Bool
is_of_kind kind channel = is_kind_of kind channel.has

-- a unit is given to the entry with a logical channel
abbrev pub is_to : LogicalChannel → Option LogicalChannel → Bool
is_to l None = false
is_to l (Some its) = eqb its.0 l.0

-- ` cc/uu` for the unit with index cc * 16 + uu, where it is given to this entry of its channel's kind
unfoldable pub given_text : Kind → LogicalChannel → Channel → Option LogicalChannel → ℕ → List ℕ
given_text kind l channel to index = cond (is_of_kind kind channel && is_to l to) (bytes " " ++ unit_text (index / 16) (index % 16)) []

abbrev pub unit_at : List Channel → List Head → Kind → LogicalChannel → ℕ → List ℕ
unit_at channels heads kind l i = given_text kind l (get_or channels (i / 16) no_channel) (get_or heads i blank).to i

-- "for each of its units in ascending order ` cc/uu`"
abbrev pub units_text : List Channel → List Head → Kind → LogicalChannel → List ℕ
units_text channels heads kind l = each (unit_at channels heads kind l) 256

-- ` KKl`, "l as on the written card, nothing for 0", and its units
unfoldable pub entry_text : List Channel → List Head → Kind → LogicalChannel → List ℕ
entry_text channels heads kind l =
    bytes " " ++ (code_of kind ++ (cond (eqb l.0 0) [] (decimal_text l.0) ++ units_text channels heads kind l))

-- how many units an entry asks for
unfoldable pub asked : List ℕ → Kind → LogicalChannel → ℕ
asked units kind l = get_or units (order_of kind * 16 + l.0) 0

unfoldable pub asked_text : List ℕ → List Channel → List Head → Kind → LogicalChannel → List ℕ
asked_text units channels heads kind l = cond (eqb (asked units kind l) 0) [] (entry_text channels heads kind l)

-- the entries of a kind that are asked for, by logical channel
abbrev pub kind_text : List ℕ → List Channel → List Head → Kind → List ℕ
kind_text units channels heads kind = each (λ l. asked_text units channels heads kind (logical l)) 16

-- "for each unit entry in the written card's order": MA, MT, PR, MC, CR, PT, then by logical channel
abbrev pub kinds_text : List ℕ → List Channel → List Head → List ℕ
kinds_text units channels heads = each (λ i. kind_text units channels heads (kind_at i)) unit_kinds

-- THE LINE OF A SELECTION
abbrev pub selected_text : ℕ → Request → Assigned → List Channel → List ℕ
selected_text place request assigned channels =
    bytes "ACK "
    ++ (decimal_text place
    ++ (bytes " "
    ++ (spaceless request.id
    ++ (areas_text request.facilities assigned.ib assigned.db assigned.drum
    ++ (kinds_text request.facilities.units channels assigned.heads ++ bytes "\n")))))

-- "`CORE`, `DRUM`, `MA`, `MT`, `PR`", and "`MC`, `CR`, `PT`": a kind's code
abbrev pub part_text : Part → List ℕ
part_text Core = bytes "CORE"
part_text Drum = bytes "DRUM"
part_text (Units kind) = code_of kind
