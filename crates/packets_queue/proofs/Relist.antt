-- The list as an array with 0 past its packets: reading it back, keeping what is still listed, and one packet more.
-- Assumes nothing.
use Rattle.std.proofs.lemmas.List.{take-take}
use Prim.Native.Nat.{ℕ, suc, ◌+◌, ◌-◌, ◌≤◌, ◌<◌}
use mathlib.Core.Path.{◌≡◌, sym, ap, ◌∙◌, subst}
use mathlib.Core.Bool.{Bool, true, false, cond}
use mathlib.Core.List.{List, [], ◌∷◌, ◌++◌, append-nil}
use native.Mathlib.Numerals.{add-one}
use native.Mathlib.Omega.{arith}
use lib.ListN.{length, get_or, set, take, replicate, length-append}
use lib.Seq.{take-suc, set_at, take_all, append_snoc}
use lib.Dec.{ltb}
use borrow.Author.Tests.{lt-ltb, le-ltb, ltb-true}
use Rattle.numbers.proofs.Tests.{by_bool}
use Rattle.packets.proofs.Laws.{keep_append}
use Rattle.numbers.specs.Elements.{keep}
use Rattle.packets.specs.State.{blank, enlisted, is_kept, job_in, packet_in, packet_of, place_of, relist}
use Rattle.packets.specs.declared.Job.{Job}
use Rattle.packets.specs.declared.Packet.{Packet}
use Rattle.packets.specs.declared.RequestList.{RequestList}
use Rattle.packets_queue.specs.Padded.{Tidy, list_of, padded}
use Rattle.packets_queue.specs.Keeping.{Relisted, listed, size_of}
use Rattle.packets_queue.proofs.PaddedLaws.{list-padded}

pub tidy-padded : (l : List ℕ) → length l ≤ 256 → Tidy (padded l)
tidy-padded l h = record { is = ap padded (sym (list-padded l)); few = rw (list-padded l) h }

-- of at most 256 entries the count says how many are listed; one that passes their end says all
pub listed-is : (entries : List ℕ) (count : ℕ) → length entries ≤ 256 → listed entries count ≡ take count entries
unfolding size_of
listed-is entries count h =
    by_bool (ltb (length entries) count)
    (λ t. let l : length entries < count = ltb-true (length entries) count t in
    rw (le-ltb 256 (length entries) h, t) (take_all (length entries) entries (omega arith) ∙ sym (take_all count entries (omega arith))))
    (λ t. rw (le-ltb 256 (length entries) h, t))

-- a padded list takes one more
pad-step : (v : ℕ) (l out : List ℕ) (n : ℕ) → n ≡ length l → n < 256 → out ≡ l ++ replicate (256 - n) 0
    → set out n v ≡ (l ++ (v ∷ [])) ++ replicate (256 - (n + 1)) 0
pad-step v l out n e h q =
    ap (λ (x : List ℕ). set x n v) (q ∙ ap (λ (k : ℕ). l ++ replicate k 0) more)
    ∙ set_at l 0 (replicate (256 - (n + 1)) 0) v n (sym e)
    ∙ sym (append_snoc l v (replicate (256 - (n + 1)) 0))
  where
    more : 256 - n ≡ suc (256 - (n + 1))
    more = omega arith

keep-step : (f : ℕ → Bool) (l : List ℕ) (i : ℕ) → i < length l
    → keep f (take (i + 1) l) ≡ keep f (take i l) ++ cond (f (get_or l i 0)) (get_or l i 0 ∷ []) []
keep-step f l i h = rw (add-one i, take-suc l i 0 h, keep_append f (take i l) (get_or l i 0 ∷ []))

-- what the loop of `relisted` keeps: of the first i entries, those that pass the test are the first n of out, and
-- zeros follow
pub record Relisting (f : ℕ → Bool) (old out : List ℕ) (n i : ℕ) : Type 0 where
  pub size : n ≡ length (keep f (take i old))
  pub few : n ≤ i
  pub is : out ≡ keep f (take i old) ++ replicate (256 - n) 0

module _ (f : ℕ → Bool) (old out : List ℕ) (n i : ℕ) (R : Relisting f old out n i) (h : i < length old) where
  pub relisting-kept : n < 256 → f (get_or old i 0) ≡ true → Relisting f old (set out n (get_or old i 0)) (n + 1) (i + 1)
  relisting-kept small t =
      record {
        size = rw (step, length-append (keep f (take i old)) (get_or old i 0 ∷ []), R.size);
        few = let k = R.few in omega arith;
        is = pad-step (get_or old i 0) (keep f (take i old)) out n R.size small R.is ∙ rw step;
      }
    where
      step : keep f (take (i + 1) old) ≡ keep f (take i old) ++ (get_or old i 0 ∷ [])
      step = keep-step f old i h ∙ rw t

  pub relisting-gone : f (get_or old i 0) ≡ false → Relisting f old out n (i + 1)
  relisting-gone t = record { size = rw step R.size; few = let k = R.few in omega arith; is = rw step R.is }
    where
      step : keep f (take (i + 1) old) ≡ keep f (take i old)
      step = keep-step f old i h ∙ rw t (append-nil (keep f (take i old)))

-- what holds of a part of the list holds of the list
pub relisting-part : (f : ℕ → Bool) (old out : List ℕ) (m n i : ℕ) → i ≤ n → Relisting f (take n old) out m i → Relisting f old out m i
relisting-part f old out m n i h R =
    let e : take i (take n old) ≡ take i old = take-take i n old h in
    record { size = rw (← e) R.size; few = R.few; is = rw (← e) R.is }

pub relisted-done : (j : ℕ) (ps : List Packet) (old out : List ℕ) (count n i : ℕ) → Relisting (is_kept j ps) old out n i → i ≤ 256
    → i ≡ size_of old count → Relisted j ps old count (record { entries = out; count = n })
unfolding relist
relisted-done j ps old out count n i R few e =
    record {
      is = same ∙ ap (λ (k : ℕ). padded (relist j ps (take k old))) e;
      tidy = subst Tidy (sym same) (tidy-padded (relist j ps (take i old)) (omega (arith, R.few, R.size)));
    }
  where
    same : ◌≡◌ {A = RequestList} (record { entries = out; count = n }) (padded (relist j ps (take i old)))
    same = rw (R.is, R.size)

module _ (list : RequestList) (tidy : Tidy list) (e : ℕ) where
  count-is : list.count ≡ length (list_of list)
  count-is = ap (λ (r : RequestList). r.count) tidy.is

  -- where there is no room the list stays
  pub entry-full : 255 < list.count → list ≡ padded (enlisted (list_of list) e)
  unfolding enlisted
  entry-full h = tidy.is ∙ rw (le-ltb (length (list_of list)) 256 (omega (arith, count-is)))

  -- where there is room it takes one more
  pub entry-joins : list.count ≤ 255
      → ◌≡◌ {A = RequestList} (record { entries = set list.entries list.count e; count = list.count + 1 }) (padded (enlisted (list_of list) e))
  unfolding enlisted
  entry-joins h =
      rw (lt-ltb (length (list_of list)) 256 (omega (arith, count-is)))
      (two (pad-step e (list_of list) list.entries list.count count-is (omega arith) whole
      ∙ ap (λ (k : ℕ). (list_of list ++ (e ∷ [])) ++ replicate (256 - k) 0) more)
      more)
    where
      whole : list.entries ≡ list_of list ++ replicate (256 - list.count) 0
      whole = ap (λ (r : RequestList). r.entries) tidy.is ∙ ap (λ (k : ℕ). list_of list ++ replicate (256 - k) 0) (sym count-is)

      more : list.count + 1 ≡ length (list_of list ++ (e ∷ []))
      more = omega (arith, count-is, length-append (list_of list) (e ∷ []))

      two : {a b : List ℕ} {m n : ℕ} → a ≡ b → m ≡ n → ◌≡◌ {A = RequestList} (record { entries = a; count = m }) (record { entries = b; count = n })
      two p q = rw (p, q)

-- the packet that an entry names, read by its place and number
pub entry-is : (jobs : List Job) (e a : ℕ) → a ≡ place_of e → packet_in jobs (place_of e) (packet_of e) ≡ get_or (job_in jobs a).packets (packet_of e) blank
unfolding packet_in
entry-is jobs e a p = rw p
