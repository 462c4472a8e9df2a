-- `step_refusals::holdings::transcript_fits` meets its contract: its tests in the order of the definition. Assumes nothing.
use Rattle.std.proofs.Common.{◌≡◌, sym, ap, ap₂, ◌∙◌, Bool, not, ◌&&◌, map, ltb}
use Rattle.std.proofs.Math.Bool.{and_assoc, and-true}
use Rattle.field.specs.Prime.{Prime}
use Rattle.field.specs.Element.{of}
use Rattle.domain.specs.Domain.{inside}
use Rattle.domain.specs.Size.{is_size}
use Rattle.domain.specs.Qualifies.{Qualifies}
use Rattle.protocol.specs.Circuit.{largest}
use Rattle.protocol.specs.Checks.{list_transcript}
use Rattle.shared.specs.Meanings.{three, sizes, transcript}
use Rattle.protocol.specs.Session.{all, all_below, transcript_fits}
use Rattle.protocol.proofs.AllowedSizes.{allowed, largest_size}
use Rattle.step_refusals.proofs.Tests.{joined}
use Rattle.step_refusals.proofs.holdings.transcript_fits.Goals as goal
use Rattle.step_refusals.proofs.holdings.transcript_fits.Goals.{Start, Joined-all_below, then-all_below, else-all_below}
use Rattle.step_refusals.proofs.holdings.transcript_fits.Goals.{Joined-not-is_inside, then-not-is_inside, else-not-is_inside}

module _ (q : Prime) (s : Start) where
  -- the tests of the words, of α, of β and of γ
  abbrev words : Bool
  words = all_below q (list_transcript (transcript s.args.t))

  abbrev at-α : Bool
  at-α = not (inside {q = q} s.args.s.r (of s.args.t.alpha))

  abbrev at-β : Bool
  at-β = not (inside {q = q} s.args.s.c (of s.args.t.beta))

  abbrev at-γ : Bool
  at-γ = not (inside {q = q} (largest (three s.args.s.k)) (of s.args.t.gamma))

  in_order : {v : Bool} → v ≡ (((words && at-α) && at-β) && at-γ) → v ≡ transcript_fits q (sizes s.args.s) (transcript s.args.t)
  unfolding transcript_fits
  in_order e =
      e ∙ and_assoc (words && at-α) at-β at-γ ∙ and_assoc words at-α (at-β && at-γ)
      ∙ ap (λ t. words && (at-α && (at-β && t))) (sym (and-true at-γ))

-- past α, past β
to_α : (q : Prime) (c : Joined-all_below) → Qualifies q → let s = (goal.at.Joined-all_below c).Start in q.p ≡ s.args.p
    → c.if-all_below.value ≡ (words q s && at-α q s)
to_α q c Q e =
    let is = c.all_below.ensures ∙ ap₂ (λ p l. all (map (λ w. ltb w p) l)) (sym e) c.transcript_words.ensures in
    elim c.if-all_below.branch [
      | then-all_below w ↦ joined _ w.if-all_below.true is (w.value-is ∙ ap not (w.is_inside.ensures q Q e))
      | else-all_below w ↦ joined (at-α q (goal.at.Joined-all_below c).Start) w.if-all_below.false is (w.value-is ∙ w.if-all_below.false)
    ]

to_β : (q : Prime) (c : Joined-not-is_inside) → Qualifies q → let s = (goal.at.Joined-not-is_inside c).Start in q.p ≡ s.args.p
    → c.if-not-is_inside.value ≡ ((words q s && at-α q s) && at-β q s)
to_β q c Q e =
    let front = to_α q (goal.at.Joined-not-is_inside c).Joined-all_below Q e in
    elim c.if-not-is_inside.branch [
      | then-not-is_inside w ↦ joined _ w.if-not-is_inside.true front (w.value-is ∙ ap not (w.is_inside-then-not-is_inside.ensures q Q e))
      | else-not-is_inside w ↦
          joined (at-β q (goal.at.Joined-not-is_inside c).Start) w.if-not-is_inside.false front
          (w.value-is ∙ w.if-not-is_inside.false)
    ]

pub is_inside-requires-clause-n_value : goal.is_inside-requires-clause-n_value
is_inside-requires-clause-n_value c = (allowed (sizes c.args.s) c.requires.s_value).R-size

pub is_inside-requires-then-not-is_inside-clause-n_value : goal.is_inside-requires-then-not-is_inside-clause-n_value
is_inside-requires-then-not-is_inside-clause-n_value c = (allowed (sizes c.args.s) c.requires.s_value).C-size

pub is_inside-requires-then-not-is_inside-2-clause-n_value : goal.is_inside-requires-then-not-is_inside-2-clause-n_value
is_inside-requires-then-not-is_inside-2-clause-n_value c =
    let s = sizes c.args.s in
    ap is_size c.largest.ensures ∙ largest_size s (allowed s c.requires.s_value)

pub returns-then-not-is_inside-2 : goal.returns-then-not-is_inside-2
returns-then-not-is_inside-2 c q Q e =
    let here = goal.at.returns-then-not-is_inside-2 c in
    in_order q here.Start
    (joined _ c.if-not-is_inside-2.true (to_β q here.Joined-not-is_inside Q e)
    (ap not (c.is_inside-then-not-is_inside-2.ensures q Q e ∙ ap (λ n. inside {q = q} n (of c.args.t.gamma)) c.largest.ensures)))

pub returns-else-not-is_inside-2 : goal.returns-else-not-is_inside-2
returns-else-not-is_inside-2 c q Q e =
    let here = goal.at.returns-else-not-is_inside-2 c in
    in_order q here.Start
    (joined (at-γ q here.Start) c.if-not-is_inside-2.false (to_β q here.Joined-not-is_inside Q e) c.if-not-is_inside-2.false)
