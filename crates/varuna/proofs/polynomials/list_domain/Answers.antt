-- `varuna::polynomials::list_domain` meets its contract. Assumes nothing.
use mathlib.Core.List.{[], ◌∷◌}
use mathlib.Core.Option.{none}
use lib.Dec.{eqb}
use lib.ListN.{length}
use Rattle.domain.specs.Size.{is_size}
use mathlib.Core.Path.{◌≡◌, refl, sym, ◌∙◌}
use borrow.Author.Tests.{eq-eqb, ne_eqb}
use Rattle.domain.specs.BabyBear.{baby_bear}
use Rattle.domain.proofs.DomainLaws.{powers-domain}
use Rattle.protocol.specs.Refusals.{first, size_refusal, list_refusal}
use Rattle.protocol.specs.Calls.{domain_call}
use Rattle.varuna.proofs.AnswerLaws.{fill_done}
use Rattle.varuna.proofs.polynomials.list_domain.Goals as goal

pub returns-then-not-is_size : goal.returns-then-not-is_size
unfolding domain_call size_refusal
returns-then-not-is_size c = simp (sym c.is_size.ensures ∙ c.if-not-is_size.true)

pub returns-then-out-n : goal.returns-then-out-n
unfolding domain_call size_refusal list_refusal
returns-then-out-n c = simp (sym c.is_size.ensures ∙ c.if-not-is_size.false, ne_eqb _ _ c.if-out-n.true)

pub root_of-requires : goal.root_of-requires
root_of-requires c =
    sym c.is_size.ensures ∙ c.if-not-is_size.false

pub returns : goal.returns
unfolding domain_call size_refusal list_refusal
returns c =
    let fine : first (size_refusal (is_size c.args.n ∷ []) ∷ list_refusal (eqb (length c.args.out.now) c.args.n ∷ []) ∷ []) ≡ none =
    simp (sym c.is_size.ensures ∙ c.if-not-is_size.false, eq-eqb _ _ c.if-out-n.false) in
    fill_done c.args.out.now (sym fine)
    (c.fill_powers.ensures baby_bear refl
    ∙ powers-domain baby_bear c.args.n _ _ c.if-out-n.false
    (c.root_of.ensures baby_bear (record { is_module = refl; value = refl })))
