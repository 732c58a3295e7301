-- THE WRITER TAKES EXACTLY THE REQUESTS THAT CARDS MAY ASK FOR: by what the rules say of each field's text, both
-- ways. Assumes nothing.
use Prim.Native.Nat.{ℕ, zero, suc, ◌+◌, ◌≤◌, ◌<◌}
use mathlib.Core.Path.{◌≡◌, refl, sym, ap, subst, ◌∙◌}
use mathlib.Core.Bool.{Bool, true, false, ◌&&◌, not}
use mathlib.Core.List.{List, [], ◌∷◌}
use native.Mathlib.Omega.{arith}
use lib.Dec.{eqb, ltb}
use lib.ListN.{length, get_or}
use borrow.Author.Tests.{eq-eqb, eqb-true, eqb-false, ne_eqb, lt-ltb, le-ltb, ltb-true, ltb-false}
use Rattle.numbers.specs.Quoted.{bytes}
use Rattle.numbers.proofs.Tests.{by_bool, never, both}
use Rattle.numbers.specs.Limits.{most_blocks}
use Rattle.text.specs.Class.{is_alnum, is_digit, is_letter}
use Rattle.text.specs.Writing.{decimal_text}
use Rattle.words.specs.Words.{every, has, passes}
use Rattle.words.specs.declared.Class.TheVariants.{Hyphened}
use Rattle.words.proofs.WordLaws.{every-weaker, value-below}
use Rattle.cards_fields.specs.Fields.{padded, spaceless}
use Rattle.cards_request.specs.Errors.{error_if, good}
use Rattle.cards_request.proofs.ErrorLaws.{not-error, or_else_none}
use Rattle.cards_request.specs.declared.CardError.TheVariants.{NoIb, TooMuchCore}
use Rattle.cards_request.specs.declared.Request.{Request}
use Rattle.std.specs.Prelude.{Option, Ok}
use Rattle.std.specs.Option.{unwrap_or}
use Rattle.cards_pty.specs.Pty.{no_priority, field_error, fields_error, last_of_all, one_of, program_name, rule_at, rules}
use Rattle.cards_pty.specs.declared.Priority.{Priority}
use Rattle.cards_pty.proofs.PtyLaws.{good-field, right, right-at}
use Rattle.cards_fac.specs.Fac.{asks_of, core_error, slots}
use Rattle.cards_writing.specs.Writing.{formed, limit, mark_text, numbers_fit, priority_text, pty_fields, takes}
use Rattle.cards_writing.proofs.Again.{fit_length}
use Rattle.cards_fields.proofs.CardLaws.{alnum-plain, hyphened-plain, number-back, plain}
use Rattle.cards_writing.proofs.Back.{name_back, priority-back}
use Rattle.cards_full.proofs.Kept.{count-text, formed-padded, good-priority, minutes-text, more, priority-text, unpadded}
use Rattle.cards_full.proofs.Round.{Taken, taken}
use Rattle.cards_round.specs.Allowed.{Allowed, Name}

-- ---- names

module _ (class : ℕ → Bool) (weaker : (b : ℕ) → class b ≡ true → plain b ≡ true) (least most : ℕ) (s : List ℕ) (n : Name class least most s) where
  name-plain : every plain n.text ≡ true
  name-plain = every-weaker class plain weaker n.text n.each

  name-formed : formed most s ≡ true
  name-formed = ap (formed most) n.is ∙ formed-padded most n.text name-plain

  name-text : spaceless s ≡ n.text
  name-text = ap spaceless n.is ∙ unpadded most n.text name-plain n.long.1

-- ---- marks

-- a mark that may be left out, by the letters that it may be
mark-listed : (ls : List ℕ) (b : ℕ) → has (32 ∷ ls) b ≡ true → (length (mark_text b) ≤ 1) × (one_of ls (mark_text b) ≡ true)
mark-listed ls b h =
    by_bool (eqb b 32)
    (λ e. rw e (omega arith, refl))
    (λ e. let g : has ls b ≡ true = rw e at h in rw e (omega arith, rw g))

mark-one : (ls : List ℕ) (b : ℕ) → has ls 32 ≡ false → has ls b ≡ true → (length (mark_text b) ≡ 1) × (one_of ls (mark_text b) ≡ true)
mark-one ls b n h =
    by_bool (eqb b 32)
    (λ e. never (subst (λ (x : ℕ). has ls x ≡ true) (eqb-true b 32 e) h) n)
    (λ e. rw e (refl, rw h))

listed-mark : (ls : List ℕ) (b : ℕ) → one_of ls (mark_text b) ≡ true → has (32 ∷ ls) b ≡ true
listed-mark ls b h = by_bool (eqb b 32) (λ e. rw e) (λ e. let g : has ls b && true ≡ true = rw e at h in rw e (both (has ls b) true g).0)

one-mark : (ls : List ℕ) (b : ℕ) → 1 ≤ length (mark_text b) → one_of ls (mark_text b) ≡ true → has ls b ≡ true
one-mark ls b l h =
    by_bool (eqb b 32)
    (λ e. let k : 1 ≤ 0 = rw e at l in absurd (omega arith))
    (λ e. let g : has ls b && true ≡ true = rw e at h in (both (has ls b) true g).0)

-- ---- numbers

fit-units : (k : ℕ) (ns : List ℕ) → 3 ≤ k → k + length ns ≡ slots → ((i : ℕ) → get_or ns i 0 ≤ 99) → numbers_fit k ns ≡ true
fit-units k [] h e f = eq-eqb k slots (omega arith)
fit-units k (n ∷ ns) h e f =
    let low : ltb n (limit k) ≡ true = rw (ne_eqb k 2 (λ q. omega arith)) (lt-ltb n 100 (omega (arith, f 0))) in
    rw low (fit-units (suc k) ns (omega arith) (omega arith) (λ i. f (suc i)))

units-fit : (k : ℕ) (ns : List ℕ) → 3 ≤ k → numbers_fit k ns ≡ true → (i : ℕ) → get_or ns i 0 ≤ 99
units-fit k [] h f zero = omega arith
units-fit k [] h f (suc i) = omega arith
units-fit k (n ∷ ns) h f zero =
    let a : ltb n 100 ≡ true = rw (ne_eqb k 2 (λ q. omega arith)) at (both (ltb n (limit k)) (numbers_fit (suc k) ns) f).0 in
    omega (arith, ltb-true n 100 a)
units-fit k (n ∷ ns) h f (suc i) = units-fit (suc k) ns (omega arith) (both (ltb n (limit k)) (numbers_fit (suc k) ns) f).1 i

-- ---- what is allowed is taken

module _ (n : ℕ) (few : n ≤ 99) (r : Request) (a : Allowed r) where
  -- a field that is this text
  is_right : (k : ℕ) (t s : List ℕ) → s ≡ t → (rule_at k).least ≤ length t → length t ≤ (rule_at k).most → (rule_at k).content t ≡ true
      → field_error k (rule_at k) s ≡ Ok tt
  is_right k t s e l m c = ap (field_error k (rule_at k)) e ∙ right k (rule_at k) t l m c

  not_last : last_of_all r.letter r.precedence ≡ false
  not_last =
      by_bool (eqb r.letter 90)
      (λ e. by_bool (eqb r.precedence 63) (λ f. absurd (a.last (eqb-true r.letter 90 e) (eqb-true r.precedence 63 f))) (λ f. rw (e, f)))
      (λ e. rw e)

  text-first : get_or a.program.text 0 0 ≡ get_or r.program 0 0
  text-first = go a.program.text a.program.long.0 ∙ ap (λ (s : List ℕ). get_or s 0 0) (sym a.program.is)
    where
      go : (t : List ℕ) → 1 ≤ length t → get_or t 0 0 ≡ get_or (padded 12 t) 0 0
      go [] h = absurd (omega arith)
      go (b ∷ t) h = refl

  program-right : program_name a.program.text ≡ true
  unfolding program_name
  program-right = rw (ne_eqb (get_or a.program.text 0 0) 45 (λ e. a.first (sym text-first ∙ e))) a.program.each

  fields-right : fields_error (pty_fields n r) ≡ Ok tt
  unfolding pty_fields rules priority_text is_alnum is_letter is_digit
  fields-right =
      let rush = mark-listed (bytes "S") r.rush a.rush in
      let immediate = mark-listed (bytes "I") r.immediate a.immediate in
      let device = mark-listed (bytes "TAC") r.device a.device in
      let mode = mark-one (bytes "SP") r.mode refl a.mode in
      let mix = mark-one (bytes "PC") r.mix refl a.mix in
      let store = mark-listed (bytes "TACZ") r.store a.store in
      more (is_right 0 a.id.text (spaceless r.id) (name-text is_alnum alnum-plain 1 6 r.id a.id) a.id.long.0
      a.id.long.1 a.id.each)
      (more refl
      (more (count-text n few)
      (more (right 3 (rule_at 3) (mark_text r.rush) (omega arith) rush.0 rush.1)
      (more (is_right 4 a.program.text (spaceless r.program) (name-text (passes Hyphened) hyphened-plain 1 12 r.program a.program)
      a.program.long.0 a.program.long.1 program-right)
      (more (right 5 (rule_at 5) (mark_text r.immediate) (omega arith) immediate.0 immediate.1)
      (more (right 6 (rule_at 6) (mark_text r.device) (omega arith) device.0 device.1)
      (more (is_right 7 a.medium.text (spaceless r.medium) (name-text is_alnum alnum-plain 1 6 r.medium a.medium)
      a.medium.long.0 a.medium.long.1 a.medium.each)
      (more (right 8 (rule_at 8) (mark_text r.mode) (omega (arith, mode.0)) (omega (arith, mode.0)) mode.1)
      (more
      (priority-text r.sequence r.letter r.precedence (omega (arith, a.sequence)) (omega (arith, a.precedence)) a.letter not_last)
      (more (right 10 (rule_at 10) (mark_text r.mix) (omega (arith, mix.0)) (omega (arith, mix.0)) mix.1)
      (more (minutes-text r.minutes (omega (arith, a.minutes)))
      (more (right 12 (rule_at 12) (mark_text r.store) (omega arith) store.0 store.1)
      (more (is_right 13 a.library.text (spaceless r.library) (name-text is_alnum alnum-plain 0 6 r.library a.library)
      a.library.long.0 a.library.long.1 a.library.each)
      refl)))))))))))))

  -- NO RULE REFUSES IT
  pub allowed-taken : takes n r ≡ true
  unfolding takes
  allowed-taken =
      let f = r.facilities in
      let core : core_error (asks_of f) ≡ (Ok tt) =
      rw (le-ltb most_blocks (f.ib + f.db) a.core, ne_eqb f.ib 0 (λ e. omega (arith, a.ib))) in
      let m : numbers_fit 0 (asks_of f) ≡ true =
      rw (
        lt-ltb f.ib 100 (omega (arith, a.core)),
        lt-ltb f.db 100 (omega (arith, a.core)),
        lt-ltb f.md 1000000 (omega (arith, a.drum)),
      )
      (fit-units 3 f.units (omega arith) (omega (arith, a.counts)) a.units) in
      rw (
        name-formed is_alnum alnum-plain 1 6 r.id a.id,
        name-formed (passes Hyphened) hyphened-plain 1 12 r.program a.program,
        name-formed is_alnum alnum-plain 1 6 r.medium a.medium,
        name-formed is_alnum alnum-plain 0 6 r.library a.library,
        a.letter,
        lt-ltb r.sequence 64 (omega (arith, a.sequence)),
        lt-ltb r.precedence 64 (omega (arith, a.precedence)),
        lt-ltb r.minutes 10000 (omega (arith, a.minutes)),
        fields-right,
      )
      (ap (λ (x : Bool). x && good (core_error (asks_of f))) m ∙ ap good core)

-- ---- what is taken is allowed

module _ (n : ℕ) (r : Request) (t : Taken n r) where
  rule-of : (k : ℕ) → k < 14 → ((rule_at k).least ≤ length (get_or (pty_fields n r) k []))
      × ((length (get_or (pty_fields n r) k []) ≤ (rule_at k).most) × ((rule_at k).content (get_or (pty_fields n r) k []) ≡ true))
  rule-of k h = good-field k (rule_at k) (get_or (pty_fields n r) k []) (right-at (pty_fields n r) t.fields k h)

  a-name : (class : ℕ → Bool) (least most : ℕ) (s : List ℕ) → formed most s ≡ true → least ≤ length (spaceless s) → length (spaceless s) ≤ most
      → every class (spaceless s) ≡ true → Name class least most s
  a-name class least most s f l m e = record { text = spaceless s; long = (l, m); each = e; is = sym (name_back most s f) }

  named-so : program_name (spaceless r.program) ≡ true
  unfolding pty_fields rules
  named-so = (rule-of 4 (omega arith)).1.1

  program-parts : (not (eqb (get_or (spaceless r.program) 0 0) 45) ≡ true) × (every (passes Hyphened) (spaceless r.program) ≡ true)
  unfolding program_name
  program-parts = both (not (eqb (get_or (spaceless r.program) 0 0) 45)) (every (passes Hyphened) (spaceless r.program)) named-so

  first-is : 1 ≤ length (spaceless r.program) → get_or (spaceless r.program) 0 0 ≡ get_or r.program 0 0
  first-is h = go (spaceless r.program) h ∙ ap (λ (s : List ℕ). get_or s 0 0) (name_back 12 r.program t.program)
    where
      go : (s : List ℕ) → 1 ≤ length s → get_or s 0 0 ≡ get_or (padded 12 s) 0 0
      go [] l = absurd (omega arith)
      go (b ∷ s) l = refl

  last_of : last_of_all r.letter r.precedence ≡ false
  unfolding pty_fields rules priority_text
  last_of =
      let g = (rule-of 9 (omega arith)).1.1 in
      subst (λ (x : Priority). last_of_all x.letter x.precedence ≡ false)
      (ap (λ (x : Option Priority). unwrap_or x no_priority) (priority-back r.sequence r.letter r.precedence t.sequence t.precedence t.letter g))
      (good-priority (priority_text r) g).last

  minutes-of : r.minutes < 10000
  unfolding pty_fields rules
  minutes-of =
      subst (λ (n : ℕ). n < 10000) (number-back r.minutes)
      (value-below 4 (decimal_text r.minutes) (rule-of 11 (omega arith)).1.1 (rule-of 11 (omega arith)).1.0)

  numbers_of : (r.facilities.md < 1000000) × (numbers_fit 3 r.facilities.units ≡ true)
  numbers_of =
      let f = r.facilities in
      let a = (both (ltb f.ib 100) (ltb f.db 100 && (ltb f.md 1000000 && numbers_fit 3 f.units)) t.numbers).1 in
      let b = (both (ltb f.db 100) (ltb f.md 1000000 && numbers_fit 3 f.units) a).1 in
      let c = both (ltb f.md 1000000) (numbers_fit 3 f.units) b in
      (ltb-true f.md 1000000 c.0, c.1)

  core-of : (r.facilities.ib + r.facilities.db ≤ most_blocks) × (eqb r.facilities.ib 0 ≡ false)
  core-of =
      let f = r.facilities in
      let a = or_else_none (error_if (ltb most_blocks (f.ib + f.db)) TooMuchCore) (error_if (eqb f.ib 0) NoIb) t.core in
      (ltb-false most_blocks (f.ib + f.db) (not-error (ltb most_blocks (f.ib + f.db)) TooMuchCore a.0), not-error (eqb f.ib 0) NoIb a.1)

  is-allowed : Allowed r
  unfolding pty_fields rules
  is-allowed =
      let id = rule-of 0 (omega arith) in
      let program = rule-of 4 (omega arith) in
      let medium = rule-of 7 (omega arith) in
      let library = rule-of 13 (omega arith) in
      record {
        id = a-name is_alnum 1 6 r.id t.id id.0 id.1.0 id.1.1;
        rush = listed-mark (bytes "S") r.rush (rule-of 3 (omega arith)).1.1;
        program = a-name (passes Hyphened) 1 12 r.program t.program program.0 program.1.0 program-parts.1;
        first = λ e. never program-parts.0 (rw (first-is program.0, e) refl);
        immediate = listed-mark (bytes "I") r.immediate (rule-of 5 (omega arith)).1.1;
        device = listed-mark (bytes "TAC") r.device (rule-of 6 (omega arith)).1.1;
        medium = a-name is_alnum 1 6 r.medium t.medium medium.0 medium.1.0 medium.1.1;
        mode = one-mark (bytes "SP") r.mode (rule-of 8 (omega arith)).0 (rule-of 8 (omega arith)).1.1;
        sequence = omega (arith, t.sequence);
        letter = t.letter;
        precedence = omega (arith, t.precedence);
        last = λ e f. never (rw (eq-eqb r.letter 90 e, eq-eqb r.precedence 63 f) refl) last_of;
        mix = one-mark (bytes "PC") r.mix (rule-of 10 (omega arith)).0 (rule-of 10 (omega arith)).1.1;
        minutes = omega (arith, minutes-of);
        store = listed-mark (bytes "TACZ") r.store (rule-of 12 (omega arith)).1.1;
        library = a-name is_alnum 0 6 r.library t.library library.0 library.1.0 library.1.1;
        ib = omega (arith, eqb-false r.facilities.ib 0 core-of.1);
        core = core-of.0;
        drum = omega (arith, numbers_of.0);
        counts = omega (arith, fit_length 3 r.facilities.units numbers_of.1);
        units = units-fit 3 r.facilities.units (omega arith) numbers_of.1;
      }

-- NOTHING ELSE IS TAKEN
pub taken-allowed : (n : ℕ) (r : Request) → takes n r ≡ true → Allowed r
taken-allowed n r e = is-allowed n r (taken n r e)
