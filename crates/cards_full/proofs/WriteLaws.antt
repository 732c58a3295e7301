-- What writing answers, and what the room then holds, by the tests that the code makes. Assumes nothing.
use Prim.Native.Nat.{ℕ, zero, suc, ◌+◌, ◌*◌, ◌≤◌, ◌<◌}
use mathlib.Core.Path.{◌≡◌, refl, ap, ◌∙◌}
use mathlib.Core.Bool.{true, false}
use mathlib.Core.List.{List, [], ◌∷◌, ◌++◌}
use native.Mathlib.Omega.{arith}
use lib.Dec.{leb}
use lib.ListN.{length, take, replicate, length-append}
use borrow.Author.Tests.{le-leb, leb-true, lt-leb}
use Rattle.numbers.proofs.Tests.{both}
use Rattle.numbers.specs.declared.Refusal.TheVariants.{NoRoom, WrongRequest}
use Rattle.numbers.specs.Limits.{card_length, most_further}
use Rattle.text.specs.Room.{Written}
use Rattle.text.proofs.RoomLaws.{and_then, fitted}
use Rattle.words.specs.Lines.{lf, line_text, lines_text}
use Rattle.cards_fields.specs.Fields.{spaceless}
use Rattle.cards_request.specs.Requests.{texts, texts_in}
use Rattle.cards_request.specs.declared.FurtherCard.{FurtherCard}
use Rattle.cards_request.specs.declared.FullRequest.{FullRequest}
use Rattle.cards_writing.specs.Writing.{pty_text, fac_text, takes}
use Rattle.cards_writing.proofs.PutLaws.{put-reached, put_whole}
use Rattle.cards_full.specs.Full.{card_count, behind_id, cards_in, text_of, short, takes_full, takes_further, fits, write_answer, written}
use Rattle.std.specs.Prelude.{Ok, Err}

-- cards of at most 80 characters, each with its LF
pub lines-few : (cs : List (List ℕ)) → short cs ≡ true → length (lines_text cs) ≤ (card_length + 1) * length cs
lines-few [] s = omega arith
lines-few (c ∷ cs) s =
    let q = both (leb (length c) card_length) (short cs) s in
    omega (arith, leb-true (length c) card_length q.0, lines-few cs q.1, length-append (line_text c) (lines_text cs), length-append c (lf ∷ []))

pub behind-many : (id : List ℕ) (ts : List (List ℕ)) → length (behind_id id ts) ≡ length ts
behind-many id [] = refl
behind-many id (t ∷ ts) = ap suc (behind-many id ts)

pub texts-many : (n : ℕ) (cs : List FurtherCard) → length (texts_in (take n cs)) ≤ length cs
texts-many zero cs = omega arith
texts-many (suc n) [] = omega arith
texts-many (suc n) (c ∷ cs) = omega (arith, texts-many n cs)

-- its further cards are taken
pub further-taken : (v : FullRequest) → takes_full v ≡ true → takes_further v.further ≡ true
unfolding takes_full
further-taken v t = (both (takes_further v.further) (takes (card_count v) v.request) t).0

module _ (v : FullRequest) (room : List ℕ) where
  pub not_taken : takes_full v ≡ false → (Err WrongRequest ≡ write_answer v (length room)) × (room ≡ written v room)
  unfolding write_answer written
  not_taken e = (rw e, rw e)

  module _ (t : takes_full v ≡ true) where
    abbrev n : ℕ
    n = card_count v

    abbrev further : List (List ℕ)
    further = behind_id (spaceless v.request.id) (texts v.further)

    not-fit : fits v (length room) ≡ false → (Err NoRoom ≡ write_answer v (length room)) × (room ≡ written v room)
    unfolding write_answer written
    not-fit e = (rw (t, e), rw (t, e))

    module _ {pty : List ℕ} {p : ℕ} (wp : Written (replicate (card_length + 1) 0) 0 (pty_text n v.request) pty p) where
      pub pty-long : card_length < p → (Err NoRoom ≡ write_answer v (length room)) × (room ≡ written v room)
      unfolding fits cards_in
      pty-long h = let e = put-reached (card_length + 1) wp in not-fit (rw (lt-leb (length (pty_text n v.request)) card_length (omega arith)))

      module _ (hp : p ≤ card_length) {fac : List ℕ} {f : ℕ} (wf : Written (replicate (card_length + 1) 0) 0 (fac_text v.request) fac f) where
        pty-is : length (pty_text n v.request) ≤ card_length
        pty-is = let e = put-reached (card_length + 1) wp in omega arith

        pub fac-long : card_length < f → (Err NoRoom ≡ write_answer v (length room)) × (room ≡ written v room)
        unfolding fits cards_in
        fac-long h =
            let e = put-reached (card_length + 1) wf in
            not-fit (rw (
              le-leb (length (pty_text n v.request)) card_length pty-is,
              lt-leb (length (fac_text v.request)) card_length (omega arith),
            ))

        module _ (hf : f ≤ card_length) where
          fac-is : length (fac_text v.request) ≤ card_length
          fac-is = let e = put-reached (card_length + 1) wf in omega arith

          pub card-long : short further ≡ false → (Err NoRoom ≡ write_answer v (length room)) × (room ≡ written v room)
          unfolding fits cards_in
          card-long h =
              not-fit (rw (
                le-leb (length (pty_text n v.request)) card_length pty-is,
                le-leb (length (fac_text v.request)) card_length fac-is,
                h,
              ))

          module _ (hs : short further ≡ true) (room-14 : length v.further.cards ≡ most_further) {lines : List ℕ} {k : ℕ}
              (wl : Written (replicate (most_further * (card_length + 1)) 0) 0 (lines_text further) lines k) where
            lines_fit : length (lines_text further) ≤ (most_further * (card_length + 1))
            lines_fit =
                omega (
                  arith,
                  lines-few further hs,
                  behind-many (spaceless v.request.id) (texts v.further),
                  texts-many v.further.count v.further.cards,
                )

            all_short : short (cards_in v) ≡ true
            unfolding cards_in
            all_short = rw (le-leb (length (pty_text n v.request)) card_length pty-is, le-leb (length (fac_text v.request)) card_length fac-is, hs)

            text-long : length (text_of v) ≡ p + f + 2 + k
            unfolding cards_in
            text-long =
                let a = (put_whole (card_length + 1) wp (omega (arith, pty-is))).0 in
                let b = (put_whole (card_length + 1) wf (omega (arith, fac-is))).0 in
                let c = (put_whole (most_further * (card_length + 1)) wl lines_fit).0 in
                omega (
                  arith,
                  length-append (line_text (pty_text n v.request)) (line_text (fac_text v.request) ++ lines_text further),
                  length-append (pty_text n v.request) (lf ∷ []),
                  length-append (line_text (fac_text v.request)) (lines_text further),
                  length-append (fac_text v.request) (lf ∷ []),
                )

            pub room-short : length room < p + f + 2 + k → (Err NoRoom ≡ write_answer v (length room)) × (room ≡ written v room)
            unfolding fits
            room-short h = not-fit (rw (all_short, lt-leb (length (text_of v)) (length room) (omega (arith, text-long))))

            -- all pieces
            pub all-put : p + f + 2 + k ≤ length room → {a b c d after : List ℕ} {i j l m end : ℕ}
                → Written room 0 (take p pty) a i → Written a i (lf ∷ []) b j → Written b j (take f fac) c l → Written c l (lf ∷ []) d m
                → Written d m (take k lines) after end
                → (Ok end ≡ write_answer v (length room)) × (after ≡ written v room)
            unfolding write_answer written fits cards_in
            all-put h {after = after} {end = end} w₁ w₂ w₃ w₄ w₅ =
                let x = (put_whole (card_length + 1) wp (omega (arith, pty-is))).1 in
                let y = (put_whole (card_length + 1) wf (omega (arith, fac-is))).1 in
                let z = (put_whole (most_further * (card_length + 1)) wl lines_fit).1 in
                let w : Written room 0 (text_of v) after end = rw (x, y, z) at (and_then (and_then w₁ w₂) (and_then (and_then w₃ w₄) w₅)) in
                let g = fitted w (omega (arith, text-long)) in
                let e : end ≡ length (text_of v) = omega (arith, g.0) in
                let o : 0 + length (text_of v) ≡ length (text_of v) = omega arith in
                let s = le-leb (length (text_of v)) (length room) (omega (arith, text-long)) in (
                  rw (t, all_short, s) (ap Ok e),
                  g.1 ∙ rw (o, t, all_short, s) refl,
                )
