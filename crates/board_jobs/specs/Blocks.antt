-- The board's line of core: "`CORE ` and 32 characters, block 0 first: `.` free, `X` the executive's, the place in
-- base 36 (0-9, A-F) otherwise".
use Rattle.std.specs.Prelude.{ℕ, suc, ◌+◌, ◌-◌, Bool, false, cond, ◌||◌, List, [], ◌∷◌, ◌++◌, ltb}
use Rattle.numbers.specs.Quoted.{byte, bytes}
use Rattle.numbers.specs.Limits.{blocks, first_block, last_block}
use Rattle.packets.specs.State.{in_run, is_empty}
use Rattle.packets.specs.declared.Core.{Core}
use Rattle.packets.specs.declared.Job.{Job}
use Rattle.packets.specs.declared.JobState.{JobState}
use Rattle.answer_pieces.specs.Pieces.{each}

-- a place that is not empty holds the blocks of its job's core
unfoldable pub holds_block : JobState → Core → ℕ → Bool
holds_block state core block = cond (is_empty state) false (in_run core.ib block || in_run core.db block)

-- "the place in base 36"
abbrev pub digit : ℕ → ℕ
digit place = cond (ltb place 10) (byte "0" + place) (byte "A" + (place - 10))

-- of the places from p on, the first that holds a block
unfoldable pub holder_in : ℕ → List Job → ℕ → ℕ
holder_in p [] block = byte "."
holder_in p (j ∷ js) block = cond (holds_block j.state j.core block) (digit p) (holder_in (suc p) js block)

-- "Core: 32 blocks ..; 2 to 29 are assignable, the rest the executive's"
abbrev pub is_executive : ℕ → Bool
is_executive block = ltb block first_block || ltb last_block block

unfoldable pub block_byte : List Job → ℕ → ℕ
block_byte jobs block = cond (is_executive block) (byte "X") (holder_in 0 jobs block)

abbrev pub blocks_text : List Job → List ℕ
blocks_text jobs = each (λ block. block_byte jobs block ∷ []) blocks

-- THE LINE OF CORE
abbrev pub core_text : List Job → List ℕ
core_text jobs = bytes "CORE " ++ (blocks_text jobs ++ bytes "\n")
