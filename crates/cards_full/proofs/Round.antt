-- THE ROUND TRIP of PTY and FAC: the cards of a request that the writer takes are read as that request. Each field of
-- the written cards is the one that was written, each is right by its rule, and each part of the request is read back
-- from its field. Assumes nothing.
use Prim.Native.Nat.{ℕ, ◌≤◌, ◌<◌}
use mathlib.Core.Path.{◌≡◌, refl, sym, ap, ◌∙◌}
use mathlib.Core.Bool.{true, false, ◌&&◌}
use mathlib.Core.List.{List, [], ◌∷◌}
use native.Mathlib.Omega.{arith}
use lib.Dec.{eqb, ltb}
use lib.ListN.{length, get_or, drop}
use borrow.Author.Tests.{eqb-true, ltb-true}
use Rattle.numbers.specs.Quoted.{bytes}
use Rattle.numbers.proofs.Tests.{both, by_bool}
use Rattle.numbers.specs.Limits.{card_length}
use Rattle.text.specs.Class.{is_digit, is_letter, is_alnum}
use Rattle.text.specs.Writing.{decimal_text}
use Rattle.words.specs.Words.{every, same, value}
use Rattle.words.proofs.WordLaws.{every-weaker, same_self}
use Rattle.cards_fields.specs.Fields.{card_text, field, fields, spaceless, padded, is_pty, malformed}
use Rattle.words.proofs.LineLaws.{NoLf}
use Rattle.cards_request.specs.Errors.{good}
use Rattle.cards_request.proofs.ErrorLaws.{good-is}
use Rattle.std.specs.Prelude.{Option}
use Rattle.std.specs.Option.{unwrap_or}
use Rattle.cards_pty.specs.Pty.{rules, rule_at, fields_error, held_priority, no_priority, pty_error}
use Rattle.cards_pty.proofs.PtyLaws.{right-at, good-field, pty-fields}
use Rattle.cards_fac.specs.Fac.{nothing, entries_error, all_entered, core_error, facilities_of, asks_of, is_fac, fac_error, asked, entries_of}
use Rattle.cards_group.specs.Group.{mark, request_of}
use Rattle.cards_pty.specs.declared.Priority.{Priority}
use Rattle.cards_request.specs.declared.Request.{Request}
use Rattle.std.specs.Prelude.{Ok}
use Rattle.cards_writing.specs.Writing.{priority_text, mark_text, pty_fields, trimmed, fac_fields, pty_text, fac_text}
use Rattle.cards_writing.specs.Writing.{formed, numbers_fit, names_formed, ranges_good, takes}
use Rattle.cards_writing.proofs.PutLaws.{trimmed-at, some_written}
use Rattle.cards_fields.proofs.CardLaws.{plain, AllPlain, fields_back, card-good, card-line, alnum-plain, digit-plain, number-back, number_digits}
use Rattle.cards_writing.proofs.Back.{trimmed-plain, trimmed-few, trimmed-error, listed, named, name_back, priority-back, priority-plain}
use Rattle.cards_writing.proofs.Again.{entries-back}

-- a mark
pub mark-back : (b : ℕ) → mark (mark_text b) ≡ b
mark-back b = by_bool (eqb b 32) (λ e. rw e (sym (eqb-true b 32 e))) (λ e. rw e)

-- what taking a request says of its parts
pub record Taken (n : ℕ) (r : Request) : Type 0 where
  pub id : formed 6 r.id ≡ true
  pub program : formed 12 r.program ≡ true
  pub medium : formed 6 r.medium ≡ true
  pub library : formed 6 r.library ≡ true
  pub letter : is_letter r.letter ≡ true
  pub sequence : r.sequence < 64
  pub precedence : r.precedence < 64
  pub fields : fields_error (pty_fields n r) ≡ Ok tt
  pub numbers : numbers_fit 0 (asks_of r.facilities) ≡ true
  pub core : core_error (asks_of r.facilities) ≡ Ok tt

pub taken : (n : ℕ) (r : Request) → takes n r ≡ true → Taken n r
unfolding takes
taken n r t =
    let a = both (names_formed r)
    (ranges_good r && (good (fields_error (pty_fields n r)) && (numbers_fit 0 (asks_of r.facilities) && good (core_error (asks_of r.facilities)))))
    t in
    let b = both (ranges_good r)
    (good (fields_error (pty_fields n r)) && (numbers_fit 0 (asks_of r.facilities) && good (core_error (asks_of r.facilities)))) a.1 in
    let c = both (good (fields_error (pty_fields n r)))
    (numbers_fit 0 (asks_of r.facilities) && good (core_error (asks_of r.facilities))) b.1 in
    let d = both (numbers_fit 0 (asks_of r.facilities)) (good (core_error (asks_of r.facilities))) c.1 in
    let n₁ = both (formed 6 r.id) (formed 12 r.program && (formed 6 r.medium && formed 6 r.library)) a.0 in
    let n₂ = both (formed 12 r.program) (formed 6 r.medium && formed 6 r.library) n₁.1 in
    let n₃ = both (formed 6 r.medium) (formed 6 r.library) n₂.1 in
    let g₁ = both (is_letter r.letter) (ltb r.sequence 64 && (ltb r.precedence 64 && ltb r.minutes 10000)) b.0 in
    let g₂ = both (ltb r.sequence 64) (ltb r.precedence 64 && ltb r.minutes 10000) g₁.1 in
    let g₃ = both (ltb r.precedence 64) (ltb r.minutes 10000) g₂.1 in
    record {
      id = n₁.0;
      program = n₂.0;
      medium = n₃.0;
      library = n₃.1;
      letter = g₁.0;
      sequence = ltb-true r.sequence 64 g₂.0;
      precedence = ltb-true r.precedence 64 g₃.0;
      fields = good-is (fields_error (pty_fields n r)) c.0;
      numbers = d.0;
      core = good-is (core_error (asks_of r.facilities)) d.1;
    }

module _ (n : ℕ) (r : Request) (t : Taken n r) where
  -- each field's content is right by its rule
  content : (k : ℕ) → k < 14 → (rule_at k).content (get_or (pty_fields n r) k []) ≡ true
  content k h = (good-field k (rule_at k) (get_or (pty_fields n r) k []) (right-at (pty_fields n r) t.fields k h)).1.1

  -- so that all are letters, digits, hyphens and slashes
  pub pty-plain : AllPlain (pty_fields n r)
  unfolding pty_fields rules is_alnum is_letter is_digit priority_text
  pty-plain = (
    every-weaker is_alnum plain alnum-plain (spaceless r.id) (content 0 (omega arith)),
    (
      refl,
      (
        every-weaker is_digit plain digit-plain (decimal_text n) (number_digits n),
        (
          listed (bytes "S") (mark_text r.rush) refl (content 3 (omega arith)),
          (
            named (spaceless r.program) (content 4 (omega arith)),
            (
              listed (bytes "I") (mark_text r.immediate) refl (content 5 (omega arith)),
              (
                listed (bytes "TAC") (mark_text r.device) refl (content 6 (omega arith)),
                (
                  every-weaker is_alnum plain alnum-plain (spaceless r.medium) (content 7 (omega arith)),
                  (
                    listed (bytes "SP") (mark_text r.mode) refl (content 8 (omega arith)),
                    (
                      priority-plain r.sequence r.letter r.precedence t.sequence t.precedence t.letter,
                      (
                        listed (bytes "PC") (mark_text r.mix) refl (content 10 (omega arith)),
                        (
                          every-weaker is_digit plain digit-plain (decimal_text r.minutes) (number_digits r.minutes),
                          (
                            listed (bytes "TACZ") (mark_text r.store) refl (content 12 (omega arith)),
                            (
                              every-weaker is_alnum plain alnum-plain (spaceless r.library) (content 13 (omega arith)),
                              tt,
                            ),
                          ),
                        ),
                      ),
                    ),
                  ),
                ),
              ),
            ),
          ),
        ),
      ),
    ),
  )

  -- THE PTY CARD is its fields, the empty ones at the end left off
  abbrev kept : List (List ℕ)
  kept = trimmed (pty_fields n r)

  some-kept : 0 < length kept
  some-kept = some_written n r

  -- a card of fields, for any that there are
  pub card-fields : (fs : List (List ℕ)) → 0 < length fs → AllPlain fs → fields (card_text fs) ≡ fs
  card-fields [] h p = absurd (omega arith)
  card-fields (f ∷ fs) h p = fields_back f fs p

  pub card-form : (fs : List (List ℕ)) → 0 < length fs → AllPlain fs → length (card_text fs) ≤ card_length → malformed (card_text fs) ≡ false
  card-form [] h p l = absurd (omega arith)
  card-form (f ∷ fs) h p l = card-good f fs p l

  pub card-lf : (fs : List (List ℕ)) → 0 < length fs → AllPlain fs → NoLf (card_text fs)
  card-lf [] h p = absurd (omega arith)
  card-lf (f ∷ fs) h p = card-line f fs p

  pty-fields-are : fields (pty_text n r) ≡ kept
  unfolding pty_text
  pty-fields-are = card-fields kept some-kept (trimmed-plain (pty_fields n r) pty-plain)

  -- each field reads as it was written
  pub at : (k : ℕ) → field (pty_text n r) k ≡ get_or (pty_fields n r) k []
  at k = ap (λ (fs : List (List ℕ)). get_or fs k []) pty-fields-are ∙ trimmed-at (pty_fields n r) k

  fourteen : length (pty_fields n r) ≡ 14
  unfolding pty_fields
  fourteen = refl

  is-pty : is_pty (pty_text n r) ≡ true
  unfolding pty_fields
  is-pty = ap (λ (f : List ℕ). same f (bytes "PTY")) (at 1)

  -- it has no error
  pub pty-right : length (pty_text n r) ≤ card_length → pty_error (pty_text n r) ≡ Ok tt
  unfolding pty_text
  pty-right h =
      pty-fields (pty_text n r) is-pty (card-form kept some-kept (trimmed-plain (pty_fields n r) pty-plain) h)
      (omega (arith, ap (length {A = List ℕ}) pty-fields-are, trimmed-few (pty_fields n r), fourteen))
      ∙ ap fields_error pty-fields-are ∙ trimmed-error 0 rules (pty_fields n r) ∙ t.fields

  -- THE FAC CARD
  abbrev asks : List ℕ
  asks = asks_of r.facilities

  fac-plain : AllPlain (fac_fields r)
  unfolding is_alnum is_letter is_digit pty_fields
  fac-plain = (pty-plain.0, (refl, (entries-back asks t.numbers).bytes))

  fac-fields-are : fields (fac_text r) ≡ fac_fields r
  unfolding fac_text
  fac-fields-are = card-fields (fac_fields r) (omega arith) fac-plain

  pub is-fac : is_fac (fac_text r) ≡ true
  is-fac = ap (λ (fs : List (List ℕ)). same (get_or fs 1 []) (bytes "FAC")) fac-fields-are

  entries-are : entries_of (fac_text r) ≡ drop 2 (fac_fields r)
  entries-are = ap (λ (fs : List (List ℕ)). drop 2 fs) fac-fields-are

  pub asked-back : asked (fac_text r) ≡ asks
  asked-back = ap (λ (es : List (List ℕ)). all_entered nothing es) entries-are ∙ (entries-back asks t.numbers).sum

  pub fac-right : length (fac_text r) ≤ card_length → fac_error (fac_text r) ≡ Ok tt
  unfolding fac_error fac_text
  fac-right h =
      let m = card-form (fac_fields r) (omega arith) fac-plain h in
      let e : entries_error nothing (entries_of (fac_text r)) ≡ (Ok tt) = ap (entries_error nothing) entries-are ∙ (entries-back asks t.numbers).right in
      let c : core_error (asked (fac_text r)) ≡ (Ok tt) = ap core_error asked-back ∙ t.core in
      rw (m, e, c)

  pub same-ids : same (field (fac_text r) 0) (field (pty_text n r) 0) ≡ true
  unfolding pty_fields
  same-ids =
      ap (λ (fs : List (List ℕ)). same (get_or fs 0 []) (field (pty_text n r) 0)) fac-fields-are
      ∙ ap (same (spaceless r.id)) (at 0) ∙ same_self (spaceless r.id)

  pub count-is : value (field (pty_text n r) 2) ≡ n
  unfolding pty_fields
  count-is = ap value (at 2) ∙ number-back n

  -- THE REQUEST
  pub request-back : request_of (pty_text n r) (asked (fac_text r)) ≡ r
  unfolding pty_fields priority_text rules
  request-back =
      let p = ap held_priority (at 9)
      ∙ ap (λ (x : Option Priority). unwrap_or x no_priority)
      (priority-back r.sequence r.letter r.precedence t.sequence t.precedence t.letter (content 9 (omega arith))) in
      let a₀ = ap (padded 6) (at 0) ∙ name_back 6 r.id t.id in
      let a₃ = ap mark (at 3) ∙ mark-back r.rush in
      let a₄ = ap (padded 12) (at 4) ∙ name_back 12 r.program t.program in
      let a₅ = ap mark (at 5) ∙ mark-back r.immediate in
      let a₆ = ap mark (at 6) ∙ mark-back r.device in
      let a₇ = ap (padded 6) (at 7) ∙ name_back 6 r.medium t.medium in
      let a₈ = ap mark (at 8) ∙ mark-back r.mode in
      let q = ap (λ (x : Priority). x.sequence) p in
      let l = ap (λ (x : Priority). x.letter) p in
      let e = ap (λ (x : Priority). x.precedence) p in
      let b₀ = ap mark (at 10) ∙ mark-back r.mix in
      let b₁ = ap value (at 11) ∙ number-back r.minutes in
      let b₂ = ap mark (at 12) ∙ mark-back r.store in
      let b₃ = ap (padded 6) (at 13) ∙ name_back 6 r.library t.library in
      let f : facilities_of (asked (fac_text r)) ≡ r.facilities = ap facilities_of asked-back in
      rw (a₀, a₃, a₄, a₅, a₆, a₇, a₈, q, l, e, b₀, b₁, b₂, b₃, f)

  -- neither card has an LF in it
  pub pty-line : NoLf (pty_text n r)
  unfolding pty_text
  pty-line = card-lf kept some-kept (trimmed-plain (pty_fields n r) pty-plain)

  pub fac-line : NoLf (fac_text r)
  unfolding fac_text
  fac-line = card-lf (fac_fields r) (omega arith) fac-plain

  -- the ID is of letters and digits
  pub id-plain : every plain (spaceless r.id) ≡ true
  unfolding pty_fields
  id-plain = pty-plain.0
