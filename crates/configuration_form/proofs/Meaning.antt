-- What reading a configuration means: a good answer is given for the written form of just that configuration, and
-- refusal 14 names the first bad or missing line. The three sections, each after its count, are joined by what
-- proofs/SectionLaws.antt shows of any one. Assumes nothing.
use Prim.Native.Nat.{ℕ, ◌<◌, ◌≤◌}
use mathlib.Core.Path.{◌≡◌, refl, sym, ap, subst}
use mathlib.Core.Bool.{Bool, true, false}
use mathlib.Core.List.{List, []}
use native.Mathlib.Nat.{zero-add}
use native.Mathlib.Omega.{arith}
use lib.Dec.{ltb}
use lib.ListN.{length, drop, length-drop, drop_of_length-le}
use borrow.Author.Tests.{ltb-true, ltb-false}
use Rattle.numbers.proofs.Tests.{by_bool, never}
use Rattle.numbers.specs.Limits.{most_codes}
use Rattle.channels.specs.declared.Channel.{Channel}
use Rattle.channels.specs.Channels.{no_channels, no_down, no_codes}
use Rattle.std.specs.Prelude.{Ok, Err}
use Rattle.channels.specs.declared.Configuration.{Configuration}
use Rattle.configuration.specs.declared.section.Section.{Section}
use Rattle.configuration.specs.Sections.{Read, bad, channels_from, downs_from, codes_from}
use Rattle.configuration.specs.Configured.{Answer, refused, good, and_no_more, third_section, with_codes, after_downs, after_channels, configuration_of}
use Rattle.configuration.proofs.AnySection.{ChannelsAt, channel_section, DownsAt, down_section, CodesAt, code_section}
use Rattle.configuration_form.specs.Form.{Item, Due, Right, InForm, FirstBad}
use Rattle.configuration_form.specs.Means.{Said, Means}
use Rattle.configuration_form.proofs.ReadLaws.{no_lines}
use Rattle.configuration_form.proofs.SectionLaws.{SoFar, Through, counted}
use Rattle.configuration_form.proofs.ChannelLaws.{channels_due, channel-step}
use Rattle.configuration_form.proofs.DownLaws.{downs_due, down_step}
use Rattle.configuration_form.proofs.CodeLaws.{codes_due, code_step}

-- what an answer configures, and the line that it names
abbrev is_good : Answer → Bool
is_good (Ok configured) = true
is_good (Err line) = false

abbrev line_of : Answer → ℕ
line_of (Ok configured) = 0
line_of (Err line) = line.0

good-one : {a b : Configuration} → ◌≡◌ {A = Answer} (Ok a) (Ok b) → a ≡ b
good-one e = cc

means-bad : {s : List ℕ} {number : ℕ} → FirstBad s number → Means s (refused number)
means-bad {s} {number} b =
    record {
      said = Said.bads number refl;
      written = λ of marks word e. never (ap is_good e) refl;
      first = λ n e. subst (FirstBad s) (ap line_of e) b;
    }

means-good : {s : List ℕ} {of : List Channel} {marks : List Bool} {word : ℕ} → InForm s of marks word → Means s (good of marks word)
means-good {s} {of} {marks} {word} w =
    record {
      said = Said.goods of marks word refl;
      written = λ o m x e.
          let c = good-one e in
          let p : of ≡ o = ap (λ (a : Configuration). a.channels) c in
          let q : marks ≡ m = ap (λ (a : Configuration). a.down) c in
          let r : word ≡ x = ap (λ (a : Configuration). a.codes) c in
          rw (← p, ← q, ← r) w;
      first = λ n e. never refl (ap is_good e);
    }

-- nothing is right behind the last code line
pub nothing-due : {next word : ℕ} {of : List Channel} {marks : List Bool} {item : Item} {end : Due}
    → Right (Due.codes 0 next of marks word) item end → ⊥
nothing-due = elim [ ]

module _ (s : List ℕ) where
  -- the third section was read, and then nothing follows
  no_more : (of : List Channel) (marks : List Bool) (line to : ℕ) (last : CodesAt) → SoFar s line to (codes_due of marks 0 last)
      → Means s (with_codes of marks (and_no_more s (codes_from 0 line to last.next last.of (drop to s))))
  unfolding and_no_more codes_from
  no_more of marks line to last far =
      by_bool (ltb to (length s))
      (λ u. rw u (means-bad (record {
        before = far.before;
        next = far.counted;
        due = codes_due of marks 0 last;
        rest = drop to s;
        reads = far.reads;
        bad = record { none = λ item next t r q. nothing-due r; more = λ o m x c q. follows (ltb-true to (length s) u) q };
      })))
      (λ u. rw u (means-good (record {
        lines = far.before;
        end = codes_due of marks 0 last;
        reads = rw (drop_of_length-le s {i = to} (ltb-false to (length s) u)) at far.reads;
        all = (refl, refl, refl);
      })))
    where
      follows : to < length s → drop to s ≡ [] → ⊥
      follows h q = let l : length (drop to s) ≡ 0 = ap length q in omega (arith, length-drop to s)

  after-codes : (of : List Channel) (marks : List Bool) (third : Read (Section ℕ)) → Through code_section (codes_due of marks) (code_step of marks) s third
      → Means s (with_codes of marks (and_no_more s third))
  unfolding and_no_more
  after-codes of marks third (Through.good line to last e far) =
      subst (λ (r : Read (Section ℕ)). Means s (with_codes of marks (and_no_more s r))) (sym e) (no_more of marks line to last far)
  after-codes of marks third (Through.bad number e b) = subst (λ (r : Read (Section ℕ)). Means s (with_codes of marks (and_no_more s r))) (sym e) (means-bad b)

  -- the second section was read, and then the third follows
  with-third : (of : List Channel) (line to : ℕ) (last : DownsAt) → SoFar s line to (downs_due of 0 last)
      → Means s (after_downs s of (downs_from 0 line to last.next of last.of (drop to s)))
  unfolding after_downs third_section downs_from
  with-third of line to last far =
      counted code_section (codes_due of last.of) (code_step of last.of) most_codes (omega arith) (downs_due of 0 last)
      (record { next = 0; of = no_codes })
      (λ n h. Right.code_count h) only (λ o m w c. c)
      (λ (third : Read (Section ℕ)). Means s (with_codes of last.of third)) (bad line) (and_no_more s) s line to far means-bad
      (after-codes of last.of)
    where
      only : (item : Item) (next : Due) → Right (downs_due of 0 last) item next → (n : ℕ) × (n ≤ most_codes) × (item ≡ Item.count n)
      only item next (Right.code_count {n = n} l) = (n, l, refl)

  after-downs : (of : List Channel) (second : Read (Section (List Bool))) → Through (down_section of) (downs_due of) (down_step of) s second
      → Means s (after_downs s of second)
  unfolding after_downs
  after-downs of second (Through.good line to last e far) =
      subst (λ (r : Read (Section (List Bool))). Means s (after_downs s of r)) (sym e) (with-third of line to last far)
  after-downs of second (Through.bad number e b) = subst (λ (r : Read (Section (List Bool))). Means s (after_downs s of r)) (sym e) (means-bad b)

  -- the first section was read, and then the second follows
  with_second : (line to : ℕ) (last : ChannelsAt) → SoFar s line to (channels_due 0 last)
      → Means s (after_channels s (channels_from 0 line to last.next last.drum last.of (drop to s)))
  unfolding after_channels channels_from
  with_second line to last far =
      counted (down_section last.of) (downs_due last.of) (down_step last.of) 256 (omega arith) (channels_due 0 last)
      (record { next = 0; of = no_down })
      (λ n h. Right.down_count h) only (λ o m w c. c)
      (Means s) (refused line) (after_downs s last.of) s line to far means-bad (after-downs last.of)
    where
      only : (item : Item) (next : Due) → Right (channels_due 0 last) item next → (n : ℕ) × (n ≤ 256) × (item ≡ Item.count n)
      only item next (Right.down_count {m = m} l) = (m, l, refl)

  after-channels : (first : Read (Section (List Channel))) → Through channel_section channels_due channel-step s first → Means s (after_channels s first)
  unfolding after_channels
  after-channels first (Through.good line to last e far) =
      subst (λ (r : Read (Section (List Channel))). Means s (after_channels s r)) (sym e) (with_second line to last far)
  after-channels first (Through.bad number e b) = subst (λ (r : Read (Section (List Channel))). Means s (after_channels s r)) (sym e) (means-bad b)

-- what the reader answers
pub meaning : (s : List ℕ) → Means s (configuration_of s)
unfolding configuration_of
meaning s =
    simp zero-add at (
    counted channel_section channels_due channel-step 16 (omega arith) Due.first (record { next = 0; drum = false; of = no_channels })
    (λ n h. Right.channel_count h) only (λ o m w c. c)
    (Means s) (refused 1) (after_channels s) s 1 0 (record { before = 0; counted = refl; reads = no_lines Due.first s }) means-bad (after-channels s)
    )
  where
    only : (item : Item) (next : Due) → Right Due.first item next → (n : ℕ) × (n ≤ 16) × (item ≡ Item.count n)
    only item next (Right.channel_count {n = n} l) = (n, l, refl)
