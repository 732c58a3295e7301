-- One board, computed: A1 runs in place 0 with three units, one of them being returned and down, one with interlock,
-- and a drum area; its packet on the first is stopping, one is listed; a unit is down; B2 waits. Assumes nothing.
use Prim.Native.Nat.{ℕ}
use mathlib.Core.Path.{◌≡◌, refl}
use mathlib.Core.Bool.{Bool, true, false}
use mathlib.Core.List.{List, [], ◌∷◌, ◌++◌}
use lib.ListN.{set, replicate}
use Rattle.numbers.specs.Quoted.{byte, bytes}
use Rattle.numbers.specs.declared.Kind.TheVariants.{Mt, Md}
use Rattle.text.specs.Writing.{digits_text}
use Rattle.cards_writing.specs.Writing.{priority_text}
use Rattle.cards_request.specs.Requests.{no_units}
use Rattle.cards_request.specs.declared.Request.{Request}
use Rattle.schedule_entries.specs.declared.State.TheVariants as S
use Rattle.schedule_list.specs.InSchedule.{schedule_of}
use Rattle.schedule_list.specs.declared.Schedule.{Schedule}
use Rattle.units.specs.State.{fresh_unit, none_held, unit_in, unit_set, assignable}
use Rattle.units.specs.declared.Holder.{Holder}
use Rattle.units.specs.declared.Holder.TheVariants.{Held, Returning}
use Rattle.units.specs.declared.Unit as U
use Rattle.channels.specs.Channels.{fitted, no_channels}
use Rattle.packets.specs.State.{place_of, packet_of, blank, no_job}
use Rattle.packets.specs.declared.Packet.{Packet}
use Rattle.packets.specs.declared.Site.TheVariants.{AtUnit}
use Rattle.packets.specs.declared.Status.TheVariants.{Listed, Stopping}
use Rattle.packets.specs.declared.JobState.TheVariants.{Running}
use Rattle.packets.specs.declared.Job.{Job}
use Rattle.std.specs.Prelude.{None, Some}
use Rattle.packets.specs.declared.Lists.{Lists}
use Rattle.answer_pieces.specs.Pieces.{each_from, each_of}
use Rattle.board_jobs.specs.Places.{id_in}
use Rattle.board_jobs.specs.Blocks.{holds_block, holder_in, block_byte}
use Rattle.board_units.specs.Units.{state_text, unit_line, channel_text}
use Rattle.board_drum.specs.Areas.{holds, holders, inserted, ascending}
use Rattle.board_lists.specs.Lines.{idle, entry_text, request_text}
use Rattle.board.specs.Board.{board_text}

unfoldable pub request : List ℕ → ℕ → ℕ → Request
request id sequence precedence =
    record {
      id = id;
      rush = byte " ";
      program = bytes "ECU         ";
      immediate = byte " ";
      device = byte "T";
      medium = bytes "PROG  ";
      mode = byte "P";
      sequence = sequence;
      letter = byte "A";
      precedence = precedence;
      mix = byte "P";
      minutes = 3;
      store = byte " ";
      library = bytes "      ";
      facilities = record { ib = 2; db = 0; md = 0; units = no_units };
    }

unfoldable pub schedule : Schedule
schedule =
    schedule_of (record { request = request (bytes "A1    ") 2 5; state = S.Running 0 }
    ∷ record { request = request (bytes "B2    ") 0 7; state = S.Waiting } ∷ [])

unfoldable pub unit : Holder → Bool → Bool → U.Unit
unit holder down lock = record { holder = holder; down = down; reserved = false; interlock = lock }

unfoldable pub moving : Packet
moving = record { status = Stopping; function = 2; channel = record { 0 = 3 }; at = AtUnit (record { 0 = 0 }) }

unfoldable pub listed : Packet
listed = record { status = Listed; function = 2; channel = record { 0 = 3 }; at = AtUnit (record { 0 = 1 }) }

unfoldable pub job : Job
job =
    record {
      state = Running;
      packets = moving ∷ listed ∷ replicate 14 blank;
      from = 35329;
      words = 1500;
      core = record { ib = record { start = 2; count = 2 }; db = record { start = 0; count = 0 } };
    }

unfoldable pub lists : Lists
lists =
    record {
      channels = set (set no_channels 3 (fitted Mt 4)) 5 (fitted Md 40000);
      codes = 0;
      jobs = job ∷ replicate 15 no_job;
      list = record { entries = 1 ∷ replicate 255 0; count = 1 };
      moving = set (replicate 16 idle) 3 (record { motion = Some (0, 0) });
      units = record {
        of = unit_set (unit_set (unit_set (unit_set none_held 3 0 (unit (Returning 0) true false)) 3 1 (unit (Held 0) false true)) 3 2
            (unit (Held 0) false false))
            3 3 (fresh_unit true);
      };
    }

pub board-of-a1 : board_text lists schedule
    ≡ bytes "PLACE 0 A1 RUNS\n"
    ++ (bytes "UNIT 03/00 HELD 0 RETURNING DOWN\n"
    ++ (bytes "UNIT 03/01 HELD 0 LOCKED\n"
    ++ (bytes "UNIT 03/02 HELD 0\n"
    ++ (bytes "UNIT 03/03 DOWN\n"
    ++ (bytes "CORE XX00..........................XX\n"
    ++ (bytes "DRUM 35329-36828 0\n"
    ++ (bytes "MOVES 03 0 0\n"
    ++ (bytes "LISTED 03 0 1\n" ++ (bytes "A1 02A05 RUNS\n" ++ (bytes "B2 A07 WAITS\n" ++ bytes "END OF BOARD\n"))))))))))
unfolding request schedule unit moving listed job lists schedule_of unit_in unit_set assignable place_of packet_of digits_text priority_text each_from
    each_of id_in holds_block holder_in block_byte state_text unit_line channel_text holds holders inserted ascending entry_text request_text
board-of-a1 = refl
