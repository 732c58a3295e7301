-- The part that `can_serve` reads; and the loops of `lowest` and `choose`: what a turn does to the computation that
-- remains, and what that is at the end. Assumes nothing.
use Prim.Native.Nat.{ℕ, zero, suc, ◌+◌, ◌-◌, ◌≤◌, ◌<◌, min}
use mathlib.Core.Path.{◌≡◌, refl, sym, ap, ◌∙◌, subst}
use mathlib.Core.Bool.{true, false}
use mathlib.Core.Logic.{⊎_elim}
use Rattle.numbers.proofs.Order.{le-or-lt}
use mathlib.Core.List.{List, [], ◌∷◌, ◌++◌, append_assoc, append-nil}
use native.Mathlib.Omega.{arith}
use native.Mathlib.Numerals.{add-one}
use lib.ListN.{length, get_or, set, take, drop, replicate, length-set, length-drop, drop_of_length-le, get_or-replicate}
use lib.Seq.{drop-cons, take_all, take-suc, take-suc-set, get_or-set_other}
use borrow.Author.Tests.{le-leb, lt-leb}
use Rattle.numbers.specs.declared.ChannelNumber.{ChannelNumber}
use Rattle.assign_channels.specs.declared.ByChannel.{ByChannel}
use Rattle.assign_channels.specs.declared.ByLogical.{ByLogical}
use Rattle.assign_channels.specs.declared.Picks.{Picks}
use Rattle.assign_channels.specs.Choice.{channel, total, LeastList}
use Rattle.assign_channels.specs.Greedy.{Hall, hall_b, lowest_from, lowest_of, picks, choose_of}
use Rattle.assign_channels.proofs.HallLaws.{hall-zero, hall-sound}
use Rattle.assign_channels.proofs.ChoiceLaws.{chosen}
use Rattle.assign_channels.proofs.GreedyLaws.{lowest-at, lowest-below}

-- the rest of a list is its next number and what comes after
pub next : (ns : List ℕ) (i : ℕ) → i < length ns → drop i ns ≡ get_or ns i 0 ∷ drop (i + 1) ns
next ns i h = rw (add-one, drop-cons ns i 0)

-- the entries from a logical channel on, as the part of the table that is lent
pub lent_is : (wants : List ℕ) (from start : ℕ) → length wants ≡ 16 → start ≡ min from 16
    → take (length wants - start) (drop start wants) ≡ drop from wants
lent_is wants from start size e =
    take_all (length wants - start) (drop start wants) (simp length-drop (omega arith))
    ∙ ⊎_elim (λ h. drop_of_length-le wants {i = start} (omega arith) ∙ sym (drop_of_length-le wants {i = from} (omega arith)))
    (λ h. ap (λ (n : ℕ). drop n wants) (omega arith)) (le-or-lt 16 from)

-- ---- the lowest channel
module _ (counts : List ℕ) (n : ℕ) (rest : List ℕ) (c : ℕ) (below : c < 16) where
  left : 16 - c ≡ suc (16 - (c + 1))
  left = omega arith

  pub lowest-found : n ≤ get_or counts c 0 → hall_b (set counts c 0) rest ≡ true → lowest_from counts n rest (16 - c) c ≡ c
  unfolding lowest_from
  lowest-found f t = rw (left, le-leb n (get_or counts c 0) f, t) refl

  pub lowest-small : get_or counts c 0 < n → lowest_from counts n rest (16 - (c + 1)) (c + 1) ≡ lowest_from counts n rest (16 - c) c
  unfolding lowest_from
  lowest-small f = sym (rw (left, lt-leb n (get_or counts c 0) f, ← add-one c) refl)

  pub lowest-barred : n ≤ get_or counts c 0 → hall_b (set counts c 0) rest ≡ false
      → lowest_from counts n rest (16 - (c + 1)) (c + 1) ≡ lowest_from counts n rest (16 - c) c
  unfolding lowest_from
  lowest-barred f t = sym (rw (left, le-leb n (get_or counts c 0) f, t, ← add-one c) refl)

pub lowest-end : (counts : List ℕ) (n : ℕ) (rest : List ℕ) (c : ℕ) → c ≡ 16 → lowest_from counts n rest (16 - c) c ≡ c
unfolding lowest_from
lowest-end counts n rest c e = rw e refl

-- ---- the whole list of channels
-- what is known when the logical channels below l have theirs
pub record Going (counts wants : List ℕ) (on : List ChannelNumber) (left : List ℕ) (l : ℕ) : Type 0 where
  pub low : 1 ≤ l
  pub high : l ≤ 16
  pub long : length on ≡ 16
  pub wide : length left ≡ 16
  pub blank : (j : ℕ) → l ≤ j → j < 16 → get_or on j (channel 0) ≡ channel 0
  pub hall : Hall left (drop l wants)
  pub so : take l on ++ picks left (drop l wants) ≡ channel 0 ∷ picks counts (drop 1 wants)

pub start : (counts wants : List ℕ) → length counts ≡ 16 → Hall counts (drop 1 wants) → Going counts wants (replicate 16 (channel 0)) counts 1
start counts wants w h = record {
  low = omega arith;
  high = omega arith;
  long = refl;
  wide = w;
  blank = λ j p q. get_or-replicate 16 j (channel 0) (channel 0) q;
  hall = h;
  so = refl;
}

module _ {counts wants : List ℕ} {on : List ChannelNumber} {left : List ℕ} {l : ℕ} (size : length wants ≡ 16) (more : l < 16)
    (g : Going counts wants on left l) where
  rest : drop l wants ≡ get_or wants l 0 ∷ drop (l + 1) wants
  rest = next wants l (omega arith)

  pub asks : Hall left (get_or wants l 0 ∷ drop (l + 1) wants)
  asks = subst (Hall left) rest g.hall

  pub pick-below : {c : ℕ} → 0 < get_or wants l 0 → c ≡ lowest_of left (get_or wants l 0) (drop (l + 1) wants) → c < 16
  pick-below {c} p e = omega (arith, lowest-below left (get_or wants l 0) (drop (l + 1) wants) p (omega (arith, g.wide)) asks)

  pub turn-none : get_or wants l 0 ≡ 0 → Going counts wants on left (l + 1)
  unfolding picks
  turn-none z = record {
    low = omega arith;
    high = omega arith;
    long = g.long;
    wide = g.wide;
    blank = λ j p q. g.blank j (omega arith) q;
    hall = hall-zero left (drop (l + 1) wants) (subst (λ (n : ℕ). Hall left (n ∷ drop (l + 1) wants)) z asks);
    so = let e : take (l + 1) on ≡ take l on ++ (channel 0 ∷ []) =
        ap (λ (k : ℕ). take k on) (add-one l) ∙ take-suc on l (channel 0) (omega (arith, g.long))
        ∙ ap (λ (x : ChannelNumber). take l on ++ (x ∷ [])) (g.blank l (omega arith) more) in
        let f : picks left (drop l wants) ≡ channel 0 ∷ picks left (drop (l + 1) wants) =
        ap (picks left) rest ∙ ap (λ (n : ℕ). picks left (n ∷ drop (l + 1) wants)) z in
        ap (λ (x : List ChannelNumber). x ++ picks left (drop (l + 1) wants)) e
        ∙ append_assoc (take l on) (channel 0 ∷ []) (picks left (drop (l + 1) wants)) ∙ ap (λ (x : List ChannelNumber). take l on ++ x) (sym f)
        ∙ g.so;
  }

  pub turn : {c : ℕ} → 0 < get_or wants l 0 → c ≡ lowest_of left (get_or wants l 0) (drop (l + 1) wants)
      → Going counts wants (set on l (channel c)) (set left c 0) (l + 1)
  unfolding picks
  turn {c} p d =
      let low = lowest-at left (get_or wants l 0) (drop (l + 1) wants) p (omega (arith, g.wide)) asks in
      record {
        low = omega arith;
        high = omega arith;
        long = length-set on l (channel c) ∙ g.long;
        wide = length-set left c 0 ∙ g.wide;
        blank = λ j q r. get_or-set_other on l j (channel c) (channel 0) (λ s. omega arith) ∙ g.blank j (omega arith) r;
        hall = subst (λ (x : ℕ). Hall (set left x 0) (drop (l + 1) wants)) (sym d) low.after;
        so = let a : take (l + 1) (set on l (channel c)) ≡ take l on ++ (channel c ∷ []) =
            ap (λ (k : ℕ). take k (set on l (channel c))) (add-one l) ∙ take-suc-set on l (channel c) (omega (arith, g.long)) in
            let f : picks left (drop l wants) ≡ channel c ∷ picks (set left c 0) (drop (l + 1) wants) =
            ap (picks left) rest ∙ first (get_or wants l 0) p (drop (l + 1) wants) d in
            ap (λ (x : List ChannelNumber). x ++ picks (set left c 0) (drop (l + 1) wants)) a
            ∙ append_assoc (take l on) (channel c ∷ []) (picks (set left c 0) (drop (l + 1) wants))
            ∙ ap (λ (x : List ChannelNumber). take l on ++ x) (sym f) ∙ g.so;
      }
    where
      first : (n : ℕ) → 0 < n → (ns : List ℕ) → c ≡ lowest_of left n ns → picks left (n ∷ ns) ≡ channel c ∷ picks (set left c 0) ns
      first zero p ns d = absurd (omega arith)
      first (suc n) p ns d = ap (λ (x : ℕ). channel x ∷ picks (set left x 0) ns) (sym d)

-- the same, where a branch gave the tables
pub same : {counts wants : List ℕ} {on on' : List ChannelNumber} {left left' : ByChannel} {l : ℕ} → on ≡ on' → left ≡ left'
    → Going counts wants on' left'.0 l → Going counts wants on left.0 l
same {counts} {wants} {on} {on'} {left} {left'} {l} e f g =
    subst (λ (x : ByChannel). Going counts wants on x.0 l) (sym f)
    (subst (λ (x : List ChannelNumber). Going counts wants x left'.0 l) (sym e) g)

pub end : {counts wants : List ℕ} {on : List ChannelNumber} {left : List ℕ} {l : ℕ} → length wants ≡ 16 → 16 ≤ l → Going counts wants on left l
    → on ≡ channel 0 ∷ picks counts (drop 1 wants)
unfolding picks
end {counts} {wants} {on} {left} {l} size h g =
    let a : drop l wants ≡ [] = drop_of_length-le wants {i = l} (omega arith) in
    let b : take l on ++ picks left (drop l wants) ≡ on =
    ap (λ (x : List ℕ). take l on ++ picks left x) a ∙ append-nil (take l on) ∙ take_all l on (omega (arith, g.long)) in
    sym b ∙ g.so

-- ---- the three answers
module _ (counts : ByChannel) (wants : ByLogical) (wide : length counts.0 ≡ 16) (size : length wants.0 ≡ 16) where
  abbrev none : Picks
  none = record { ok = false; on = replicate 16 (channel 0) }

  pub too_many : total counts.0 < total wants.0 → LeastList counts wants none
  unfolding choose_of
  too_many h = rw (lt-leb (total wants.0) (total counts.0) h) at (chosen counts wants wide size)

  pub not-served : total wants.0 ≤ total counts.0 → hall_b counts.0 (drop 1 wants.0) ≡ false → LeastList counts wants none
  unfolding choose_of
  not-served h f = rw (le-leb (total wants.0) (total counts.0) h, f) at (chosen counts wants wide size)

  pub served : hall_b counts.0 (drop 1 wants.0) ≡ true → Hall counts.0 (drop 1 wants.0)
  served t = hall-sound counts.0 (drop 1 wants.0) t

  -- the list that is chosen
  abbrev pub list : List ChannelNumber
  list = channel 0 ∷ picks counts.0 (drop 1 wants.0)

  pub found : {on : List ChannelNumber} → total wants.0 ≤ total counts.0 → hall_b counts.0 (drop 1 wants.0) ≡ true → on ≡ list
      → LeastList counts wants (record { ok = true; on = on })
  unfolding choose_of
  found {on} h t e =
      let a : LeastList counts wants (record { ok = true; on = list }) =
      rw (le-leb (total wants.0) (total counts.0) h, t) at (chosen counts wants wide size) in
      subst (λ (x : List ChannelNumber). LeastList counts wants (record { ok = true; on = x })) (sym e) a
