-- A HISTORY WITH KEYBOARD MESSAGES IS ONE WITH THE CALLS THAT THEY ARE, shown call by call: a message does what the
-- call does that it asks for, or nothing. Assumes nothing.
use mathlib.Core.Path.{◌≡◌, refl, ap, subst, ◌∙◌}
use mathlib.Core.List.{List, [], ◌∷◌, ◌++◌}
use mathlib.Core.Option.{Option, some}
use Rattle.packets.specs.History as Lists
use Rattle.cell.specs.declared.Cell.{Cell}
use Rattle.cell_history.proofs.MeantLaws.{Plain, by-meant}
use Rattle.cell_history.specs.Told.{told, told_by, told_of}
use Rattle.cell_history.specs.History.{Call, Deck, Delete, Do, Does, Event, Key, Leads, Release, Reply, Select, Status, meant}
use Rattle.cell_history.specs.Spelled.{NoMessages, SpelledAlways, event_of, spelled}

-- a call that is no message means itself
plain-meant : (x : Call) → Plain x → meant x ≡ some x
plain-meant (Deck bytes) p = refl
plain-meant Select p = refl
plain-meant (Do x) p = refl
plain-meant (Release id) p = refl
plain-meant (Delete id) p = refl
plain-meant (Status place packet) p = refl
plain-meant (Key message) p = absurd p

-- what one call comes to, spelled out, in front of a history
abbrev Spells : Cell → List Event → Cell → Reply → Option Call → Type 0
Spells c es d reply o =
    let l = event_of o reply ++ es in NoMessages l × (Leads c l d × (told l ≡ told_by o reply ++ told es))

spells : (c m d : Cell) (x : Call) (reply : Reply) (es : List Event) → Does c x reply m → NoMessages es → Leads m es d
    → Spells c es d reply (meant x)
spells c m d x reply es h n l =
    by-meant (Spells c es d reply) c m reply
    (λ e. (n, (subst (λ (k : Cell). Leads k es d) e l, refl)))
    (λ y p k. (
      (λ message e. subst Plain e p, n),
      ((m, (k, l)), ap (λ (o : Option Call). told_by o reply ++ told es) (plain-meant y p)),
    ))
    x h

pub spelled_out : SpelledAlways
spelled_out c d [] h = record { plain = tt; leads = h; tolds = refl }
spelled_out c d (e ∷ es) h =
    let r = spelled_out h.0 d es h.1.1 in
    let s = spells c h.0 d e.call e.reply (spelled es) h.1.0 r.plain r.leads in
    record {
      plain = s.0;
      leads = s.1.0;
      tolds = s.1.1 ∙ ap (λ (l : List Lists.Event). told_of e.call e.reply ++ l) r.tolds;
    }
