-- The example of a selection's answer, computed: A1 asks for IB/2 and MT1/2 and gets blocks 2 and 3 and the first two
-- units of channel 3. Assumes nothing.
use mathlib.Core.Path.{◌≡◌, refl}
use mathlib.Core.List.{List, []}
use lib.ListN.{set, replicate}
use Rattle.numbers.specs.Quoted.{byte, bytes}
use Rattle.numbers.specs.declared.Kind.TheVariants.{Mt}
use Rattle.text.specs.Writing.{digits_text}
use Rattle.cards_request.specs.Requests.{no_units}
use Rattle.cards_request.specs.declared.Request.{Request}
use Rattle.channels.specs.Channels.{fitted, no_channels}
use Rattle.channels.specs.declared.Channel.{Channel}
use Rattle.assign_heads.specs.Whose.{logical, blank}
use Rattle.std.proofs.Common.{Some}
use Rattle.assign_heads.specs.declared.Head.{Head}
use Rattle.assign.specs.declared.Assigned.{Assigned}
use Rattle.answer_pieces.specs.Pieces.{each_from}
use Rattle.shift_selected.specs.Selected.{given_text, entry_text, asked, asked_text, selected_text}

unfoldable pub a1 : Request
a1 =
    record {
      id = bytes "A1    ";
      rush = byte " ";
      program = bytes "ECU         ";
      immediate = byte " ";
      device = byte "T";
      medium = bytes "PROG  ";
      mode = byte "P";
      sequence = 2;
      letter = byte "A";
      precedence = 5;
      mix = byte "P";
      minutes = 3;
      store = byte " ";
      library = bytes "      ";
      facilities = record { ib = 2; db = 0; md = 0; units = set no_units 17 2 };
    }

unfoldable pub channels : List Channel
channels = set no_channels 3 (fitted Mt 4)

unfoldable pub first : Head
first = record { to = Some (logical 1) }

unfoldable pub given : Assigned
given = record { ib = 2; db = 0; drum = 0; channels = []; heads = set (set (replicate 256 blank) 48 first) 49 first }

pub selected-a1 : selected_text 0 a1 given channels ≡ bytes "ACK 0 A1 IB 2-3 MT1 03/00 03/01\n"
unfolding a1 channels first given digits_text each_from given_text entry_text asked asked_text
selected-a1 = refl
