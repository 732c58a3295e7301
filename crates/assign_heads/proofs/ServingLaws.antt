-- Serving: what the choice of channels and the giving of units make together, and that the promise leaves one
-- answer. Assumes nothing.
use Rattle.std.specs.Prelude.{None}
use mathlib.Core.Path.{◌≡◌, refl, sym, ap, ◌∙◌, subst}
use mathlib.Core.Bool.{Bool, true, false, cond}
use mathlib.Core.List.{List}
use native.Mathlib.Omega.{arith}
use lib.ListN.{length, get_or}
use lib.Seq.{ext_get_or}
use Rattle.numbers.proofs.Tests.{by_bool}
use Rattle.numbers.specs.declared.LogicalChannel.{LogicalChannel}
use Rattle.numbers.specs.declared.ChannelNumber.{ChannelNumber}
use Rattle.assign_channels.specs.declared.ByChannel.{ByChannel}
use Rattle.assign_channels.specs.declared.ByLogical.{ByLogical}
use Rattle.assign_channels.specs.Choice.{want, on, Least, NoList}
use Rattle.assign_channels.proofs.ChoiceLaws.{lex-both}
use Rattle.assign_heads.specs.declared.Head.{Head}
use Rattle.assign_heads.specs.declared.Service.{Service}
use Rattle.assign_heads.proofs.HeadsLaws.{all-served, all-lowest, served-placed}
use Rattle.assign_heads.proofs.HeadsOne.{units-one}
use Rattle.assign_heads.specs.Whose.{free_at, blank, to_at}
use Rattle.assign_heads.specs.Giving.{Owners, FreeCounts}
use Rattle.assign_heads.specs.GaveOut.{Logical, GaveOut}
use Rattle.assign_heads.proofs.GaveOutLaws.{only-free}
use Rattle.assign_heads.specs.Serving.{Chosen, Lacking, Answer, Serves}

-- the owners are logical channels
pub owners-logical : {wants : ByLogical} {channels : List ChannelNumber} {own : List LogicalChannel} → Owners wants channels own → Logical own
owners-logical o = record { each = λ c h. (o.each c h).below }

module _ {free : List Bool} {wants : ByLogical} {counts : ByChannel} {before : List Head} {channels : List ChannelNumber}
    (units : length free ≡ 256) (size : length wants.0 ≡ 16) (has : FreeCounts free counts) where
  -- a list that some assignment has is one of the lists that the choice is from
  pub chosen : {own : List LogicalChannel} {after : List Head} → Least counts wants channels → Owners wants channels own
      → GaveOut free own wants before after → Chosen free wants before channels after
  chosen {own} {after} l o g = record {
    long = l.placed.long;
    wide = g.gave.wide;
    served = all-served free wants counts channels own (to_at free after) g.left units size has l.placed o (only-free free after)
        g.gave.passed;
    least = λ others p. l.least others (served-placed free wants counts others p.to size p.long has p.served);
    lowest = all-lowest free wants counts channels own (to_at free after) g.left units size has l.placed o (only-free free after)
        g.gave.passed;
    kept = g.gave.kept;
  }

  pub lacking : NoList counts wants channels → Lacking free wants before channels before
  lacking n = record {
    never = λ others p. n.never others (served-placed free wants counts others p.to size p.long has p.served);
    none = n.blank;
    same = refl;
  }

-- ---- one answer
module _ (free : List Bool) (wants : ByLogical) (before : List Head) where
  heads-one : (channels : List ChannelNumber) (g h : List Head) → Chosen free wants before channels g → Chosen free wants before channels h → g ≡ h
  heads-one channels g h p q =
      ext_get_or blank g h (p.wide ∙ sym q.wide) λ i l.
      by_bool (free_at free i)
      (λ t.
      let e = units-one (free_at free) (want wants) (on channels) (to_at free g) (to_at free h) p.served p.lowest q.served q.lowest i
      (omega (arith, p.wide)) in
      let a : to_at free g i ≡ (get_or g i blank).to = ap (λ (b : Bool). cond b (get_or g i blank).to None) t in
      let b : to_at free h i ≡ (get_or h i blank).to = ap (λ (b : Bool). cond b (get_or h i blank).to None) t in
      let f : (get_or g i blank).to ≡ (get_or h i blank).to = sym a ∙ e ∙ b in
      λ j. record { to = f j })
      (λ t. p.kept i t ∙ sym (q.kept i t))

  one_of : (a b : Bool) (c d : List ChannelNumber) (g h : List Head) → Serves free wants before (record { ok = a; on = c; heads = g })
      → Serves free wants before (record { ok = b; on = d; heads = h })
      → ◌≡◌ {A = Service} (record { ok = a; on = c; heads = g }) (record { ok = b; on = d; heads = h })
  one_of true true c d g h p q =
      let e : c ≡ d =
      lex-both c d (p.least d (record { long = q.long; to = to_at free h; served = q.served }))
      (q.least c (record { long = p.long; to = to_at free g; served = p.served })) in
      let f : g ≡ h = heads-one d g h (subst (λ (x : List ChannelNumber). Chosen free wants before x g) e p) q in
      λ i. record { ok = true; on = e i; heads = f i }
  one_of true false c d g h p q = absurd (q.never c (record { long = p.long; to = to_at free g; served = p.served }))
  one_of false true c d g h p q = absurd (p.never d (record { long = q.long; to = to_at free h; served = q.served }))
  one_of false false c d g h p q =
      let e = p.none ∙ sym q.none in
      let f = p.same ∙ sym q.same in
      λ i. record { ok = false; on = e i; heads = f i }

  -- two answers are one
  pub serves-one : (r s : Service) → Serves free wants before r → Serves free wants before s → r ≡ s
  serves-one r s = one_of r.ok s.ok r.on s.on r.heads s.heads

-- ---- an answer by what it says of itself
pub served-so : (free : List Bool) (wants : ByLogical) (before : List Head) (r : Service) → r.ok ≡ true → Serves free wants before r
    → Chosen free wants before r.on r.heads
served-so free wants before r e s = subst (λ (b : Bool). Answer b free wants before r.on r.heads) e s

pub lacking-so : (free : List Bool) (wants : ByLogical) (before : List Head) (r : Service) → r.ok ≡ false → Serves free wants before r
    → Lacking free wants before r.on r.heads
lacking-so free wants before r e s = subst (λ (b : Bool). Answer b free wants before r.on r.heads) e s
