-- What a TRN card means: a receiving count or none, and its transfers in the order read. And how they are written, from
-- the type on.
use Rattle.std.specs.Prelude.{ℕ, ◌≤◌, ◌≡◌, Bool, true, false, List, [], ◌∷◌, ◌++◌, length}
use Rattle.std.proofs.Math.Option.{Option, none, some}
use Rattle.numbers.specs.Quoted.{byte, bytes}
use Rattle.text.specs.Writing.{decimal_text}
use Rattle.cards_fields.specs.Fields.{is_name, tail_text}
use Rattle.cards_trn.specs.Trn.{is_type, is_successor}

-- "(name 1, type, successor, name 2)"
pub record Transfer : Type 0 where
  pub name1 : List ℕ
  pub kind : List ℕ
  pub successor : List ℕ
  pub name2 : List ℕ

-- "Names: 1-6 letters or digits. Type: `D T N *T *N`. Successor: as a name, or `*REQ` or `*PLB`"
pub record ProperTransfer (t : Transfer) : Type 0 where
  pub from : is_name t.name1 ≡ true
  pub typed : is_type t.kind ≡ true
  pub next : is_successor t.successor ≡ true
  pub to : is_name t.name2 ≡ true

-- each of them is so
abbrev pub EachTransfer : List Transfer → Type 0
EachTransfer [] = Unit {0}
EachTransfer (t ∷ ts) = ProperTransfer t × EachTransfer ts

-- "a count 0-99 or none"
abbrev pub ProperCount : Option ℕ → Type 0
ProperCount none = Unit {0}
ProperCount (some n) = n ≤ 99

-- there is a count
abbrev pub is_there : Option ℕ → Bool
is_there none = false
is_there (some n) = true

-- "the count without leading zeros"
abbrev pub count_texts : Option ℕ → List (List ℕ)
count_texts none = []
count_texts (some n) = decimal_text n ∷ []

-- "name1/type/successor/name2"
unfoldable pub transfer_text : Transfer → List ℕ
transfer_text t = t.name1 ++ (byte "/" ∷ (t.kind ++ (byte "/" ∷ (t.successor ++ (byte "/" ∷ t.name2)))))

-- each of them
abbrev pub transfer_texts : List Transfer → List (List ℕ)
transfer_texts [] = []
transfer_texts (t ∷ ts) = transfer_text t ∷ transfer_texts ts

-- the fields from the third on
abbrev pub trn_fields : Option ℕ → List Transfer → List (List ℕ)
trn_fields c ts = count_texts c ++ transfer_texts ts

-- "a count 0-99 or none, and a list of (name 1, type, successor, name 2), in the order read; not both empty"
pub record ProperTrn (c : Option ℕ) (ts : List Transfer) : Type 0 where
  pub count : ProperCount c
  pub each : EachTransfer ts
  pub not_empty : 1 ≤ length (trn_fields c ts)

-- THE COUNT AND THE TRANSFERS AS THEY ARE WRITTEN: "`TRN` then, if it has a count, `,` and the count .., then for each
-- transfer `,name1/type/successor/name2`, then `.`"
unfoldable pub trn_of : Option ℕ → List Transfer → List ℕ
trn_of c ts = bytes "TRN" ++ tail_text (trn_fields c ts)
