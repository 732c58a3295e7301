-- Laws of tests, of lists under a test, and of an array after one store. Assumes nothing.
use Rattle.std.proofs.Common.{Ok, Some, None, is_none}
use Prim.Native.Nat.{ℕ, zero, suc, ◌+◌, ◌<◌}
use mathlib.Core.Path.{◌≡◌, refl, sym, ap, ◌∙◌, subst}
use mathlib.Core.Bool.{Bool, true, false, cond, ◌&&◌, ◌||◌}
use mathlib.Core.List.{List, [], ◌∷◌, ◌++◌, map}
use mathlib.Core.Option.{some}
use native.Mathlib.Omega.{arith}
use native.Mathlib.Nat.{add-zero, suc-add, add-suc}
use lib.ListN.{length, get_or, set, replicate}
use lib.Dec.{eqb}
use borrow.Author.Tests.{eq-eqb}
use Rattle.numbers.proofs.Tests.{by_bool, never}
use Rattle.numbers.specs.declared.Refusal.{Refusal}
use Rattle.numbers.specs.Elements.{any, find, keep, map_from, All}
use Rattle.packets.specs.Rules.{first}
use Rattle.packets.specs.State.{Motion, Verdict}

-- ---- tests

pub and_left : (a b : Bool) → a && b ≡ true → a ≡ true
and_left true b e = refl
and_left false b e = e

pub and_right : (a b : Bool) → a && b ≡ true → b ≡ true
and_right true b e = e
and_right false b e = never {b = false} e refl

pub and_both : (a b : Bool) → a ≡ true → b ≡ true → a && b ≡ true
and_both a b p q = rw (p, q)

pub or_right : (a b : Bool) → a ≡ false → a || b ≡ true → b ≡ true
or_right a b p e = rw p at e

pub neither : (a b : Bool) → a || b ≡ false → (a ≡ false) × (b ≡ false)
neither true b e = never {b = true} refl e
neither false b e = (refl, e)

pub passes : (b : Bool) (n : Refusal) (r : Verdict) → first b n r ≡ Ok tt → (b ≡ false) × (r ≡ Ok tt)
passes true n r e = absurd (let z : ◌≡◌ {A = ℕ} 0 1 = cc in omega arith)
passes false n r e = (refl, e)

-- ---- what moves

abbrev motion_place : Motion → ℕ
motion_place None = 0
motion_place (Some (j, p)) = j

abbrev motion_packet : Motion → ℕ
motion_packet None = 0
motion_packet (Some (j, p)) = p

-- the same motion is of the same place and packet
pub same-motion : (j p i n : ℕ) → ◌≡◌ {A = Motion} (Some (j, p)) (Some (i, n)) → (j ≡ i) × (p ≡ n)
same-motion j p i n e = (ap motion_place e, ap motion_packet e)

pub idle-moves : (j p : ℕ) → ◌≡◌ {A = Motion} None (Some (j, p)) → ⊥
idle-moves j p e = let y : ◌≡◌ {A = ℕ} 0 1 = ap (λ (m : Motion). cond (is_none m) 0 1) e in omega arith

-- ---- tests of numbers

pub eqb-self : (a : ℕ) → eqb a a ≡ true
eqb-self a = eq-eqb a a refl

-- two tests that hold together are one
pub bool_iff : (a b : Bool) → (a ≡ true → b ≡ true) → (b ≡ true → a ≡ true) → a ≡ b
bool_iff true b f g = sym (f refl)
bool_iff false true f g = g refl
bool_iff false false f g = refl

-- ---- an array after one store

module _ {A : Type 0} where
  -- what a store leaves alone is seen as before
  pub get_d-set-keep : {B : Type 0} (f : A → B) (l : List A) (i : ℕ) (v : A) (k : ℕ) (d : A) → f v ≡ f (get_or l i d)
      → f (get_or (set l i v) k d) ≡ f (get_or l k d)
  get_d-set-keep f [] i v k d e = refl
  get_d-set-keep f (x ∷ l) zero v zero d e = e
  get_d-set-keep f (x ∷ l) zero v (suc k) d e = refl
  get_d-set-keep f (x ∷ l) (suc i) v zero d e = refl
  get_d-set-keep f (x ∷ l) (suc i) v (suc k) d e = get_d-set-keep f l i v k d e

  pub get_d-map_from : (f : ℕ → A → A) (d : A) → ((k : ℕ) → f k d ≡ d) → (m : ℕ) (l : List A) (k : ℕ)
      → get_or (map_from m f l) k d ≡ f (m + k) (get_or l k d)
  get_d-map_from f d e m [] k = sym (e (m + k))
  get_d-map_from f d e m (x ∷ l) zero = rw add-zero
  get_d-map_from f d e m (x ∷ l) (suc k) = get_d-map_from f d e (suc m) l k ∙ ap (λ (i : ℕ). f i (get_or l k d)) (suc-add m k ∙ sym (add-suc m k))

  -- the same of an element that is there
  pub get_d-map_from-in : (f : ℕ → A → A) (d : A) (m : ℕ) (l : List A) (k : ℕ) → k < length l → get_or (map_from m f l) k d ≡ f (m + k) (get_or l k d)
  get_d-map_from-in f d m [] k h = absurd (omega arith)
  get_d-map_from-in f d m (x ∷ l) zero h = rw add-zero
  get_d-map_from-in f d m (x ∷ l) (suc k) h =
      get_d-map_from-in f d (suc m) l k (omega arith) ∙ ap (λ (i : ℕ). f i (get_or l k d)) (suc-add m k ∙ sym (add-suc m k))

  pub length-map_from : (f : ℕ → A → A) (m : ℕ) (l : List A) → length (map_from m f l) ≡ length l
  length-map_from f m [] = refl
  length-map_from f m (x ∷ l) = ap suc (length-map_from f (suc m) l)

  pub get_d-map_from-const : {B : Type 0} (p : A → B) (b : B) (f : ℕ → A → A) (d : A) → ((k : ℕ) (x : A) → p (f k x) ≡ b) → p d ≡ b
      → (m : ℕ) (l : List A) (k : ℕ) → p (get_or (map_from m f l) k d) ≡ b
  get_d-map_from-const p b f d e q m [] k = q
  get_d-map_from-const p b f d e q m (x ∷ l) zero = e m x
  get_d-map_from-const p b f d e q m (x ∷ l) (suc k) = get_d-map_from-const p b f d e q (suc m) l k

  pub get_d-replicate-const : {B : Type 0} (p : A → B) (a d : A) → p a ≡ p d → (n k : ℕ) → p (get_or (replicate n a) k d) ≡ p d
  get_d-replicate-const p a d e zero k = refl
  get_d-replicate-const p a d e (suc n) zero = e
  get_d-replicate-const p a d e (suc n) (suc k) = get_d-replicate-const p a d e n k

  -- ---- all elements

  pub all-imp : (P Q : A → Type 0) → ((x : A) → P x → Q x) → (l : List A) → All P l → All Q l
  all-imp P Q f [] h = tt
  all-imp P Q f (x ∷ l) h = (f x h.0, all-imp P Q f l h.1)

  pub all_both : (P Q : A → Type 0) (l : List A) → All P l → All Q l → All (λ (x : A). P x × Q x) l
  all_both P Q [] h k = tt
  all_both P Q (x ∷ l) h k = ((h.0, k.0), all_both P Q l h.1 k.1)

  pub all_append : (P : A → Type 0) (l m : List A) → All P l → All P m → All P (l ++ m)
  all_append P [] m h k = k
  all_append P (x ∷ l) m h k = (h.0, all_append P l m h.1 k)

  pub all_split : (P : A → Type 0) (l m : List A) → All P (l ++ m) → All P l × All P m
  all_split P [] m h = (tt, h)
  all_split P (x ∷ l) m h = let k = all_split P l m h.1 in ((h.0, k.0), k.1)

  pub all_keep : (P : A → Type 0) (f : A → Bool) (l : List A) → All P l → All (λ (x : A). P x × (f x ≡ true)) (keep f l)
  all_keep P f [] h = tt
  all_keep P f (x ∷ l) h = by_bool (f x) (λ e. rw e ((h.0, e), all_keep P f l h.1)) (λ e. rw e (all_keep P f l h.1))

  -- ---- keep, find, any

  pub keep_all : (f : A → Bool) (l : List A) → All (λ (x : A). f x ≡ true) l → keep f l ≡ l
  keep_all f [] h = refl
  keep_all f (x ∷ l) h = rw (h.0, keep_all f l h.1)

  pub keep-none : (f : A → Bool) (l : List A) → All (λ (x : A). f x ≡ false) l → keep f l ≡ []
  keep-none f [] h = refl
  keep-none f (x ∷ l) h = rw h.0 (keep-none f l h.1)

  pub keep_same : (f g : A → Bool) (l : List A) → All (λ (x : A). f x ≡ g x) l → keep f l ≡ keep g l
  keep_same f g [] h = refl
  keep_same f g (x ∷ l) h = rw (h.0, keep_same f g l h.1)

  pub keep_append : (f : A → Bool) (l m : List A) → keep f (l ++ m) ≡ keep f l ++ keep f m
  keep_append f [] m = refl
  keep_append f (x ∷ l) m = by_bool (f x) (λ e. rw (e, keep_append f l m)) (λ e. rw (e, keep_append f l m))

  -- what a settled list looks like through a test f that the change to f' leaves alone, and through the numbers of
  -- its elements
  pub settle-eq : (f f' g : A → Bool) (num : A → ℕ) (w : ℕ → Bool) (l : List A)
      → All (λ (x : A). (f' x ≡ f x) × (f x ≡ true → g x ≡ w (num x))) l
      → keep w (map num (keep f l)) ≡ map num (keep f' (keep g l))
  settle-eq f f' g num w [] h = refl
  settle-eq f f' g num w (x ∷ l) h =
      by_bool (f x)
      (λ e. by_bool (g x)
      (λ d. rw (e, d, sym (h.0.1 e) ∙ d, h.0.0 ∙ e, settle-eq f f' g num w l h.1))
      (λ d. rw (e, d, sym (h.0.1 e) ∙ d, settle-eq f f' g num w l h.1)))
      (λ e. by_bool (g x)
      (λ d. rw (e, d, h.0.0 ∙ e, settle-eq f f' g num w l h.1))
      (λ d. rw (e, d, settle-eq f f' g num w l h.1)))

  pub find-holds : (P : A → Type 0) (f : A → Bool) (l : List A) (a : A) → All P l → find f l ≡ some a → P a × (f a ≡ true)
  find-holds P f [] a h e = absurd (let z : ◌≡◌ {A = ℕ} 0 1 = cc in omega arith)
  find-holds P f (x ∷ l) a h e =
      by_bool (f x)
      (λ d. let q : x ≡ a = go d in (subst P q h.0, rw q at d))
      (λ d. find-holds P f l a h.1 (rw d at e))
    where
      go : f x ≡ true → x ≡ a
      go d = let z : some x ≡ some a = rw d at e in cc

  pub find-keep : (f g : A → Bool) (l : List A) (a : A) → find f l ≡ some a → g a ≡ true
      → All (λ (x : A). g x ≡ true → f x ≡ true) l → (r : List A) × (keep g l ≡ a ∷ r)
  find-keep f g [] a e ga h = absurd (let z : ◌≡◌ {A = ℕ} 0 1 = cc in omega arith)
  find-keep f g (x ∷ l) a e ga h =
      by_bool (f x)
      (λ d. let q : x ≡ a = go d in (keep g l, rw (q, ga)))
      (λ d. by_bool (g x)
      (λ k. never {b = f x} (h.0 k) d)
      (λ k. rw k (find-keep f g l a (rw d at e) ga h.1)))
    where
      go : f x ≡ true → x ≡ a
      go d = let z : some x ≡ some a = rw d at e in cc

  pub any_none : (f : A → Bool) (l : List A) (d : A) → any f l ≡ false → f d ≡ false → (k : ℕ) → f (get_or l k d) ≡ false
  any_none f [] d e fd k = fd
  any_none f (x ∷ l) d e fd zero = by_bool (f x) (λ t. never {b = true} refl (rw t at e)) (λ t. t)
  any_none f (x ∷ l) d e fd (suc k) = any_none f l d (by_bool (f x) (λ t. never {b = true} refl (rw t at e)) (λ t. rw t at e)) fd k
