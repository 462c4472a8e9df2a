-- The answer of a call that fills a lent slice, by its rows: one that refuses leaves the slice, one that does not fills it. Assumes nothing.
use Rattle.std.proofs.Common.{◌≡◌, refl, sym, subst}
use Rattle.std.specs.Prelude.{Result, IsErrAnd}
use mathlib.Core.Option.{Option, none, some}
use Rattle.shared.specs.declared.Refusal as declared-refusal
use Rattle.shared.specs.Meanings.{refusal, refusal_in}
use Rattle.shared.specs.Answers.{LentAnswer}
use Rattle.protocol.specs.Refusals.{Refusal, judged}
use Rattle.shared.proofs.EarlyReturns.{exits}

module _ {T : Type 0} {o : Option Refusal} (result before : T) where
  pub lent_refuses : (f : Option Refusal) (r : Refusal) → f ≡ some r → some r ≡ o → LentAnswer (judged o result) f before before
  lent_refuses f r is e =
      subst (λ (f : Option Refusal). LentAnswer (judged o result) f before before) (sym is)
      (subst (λ (o : Option Refusal). LentAnswer (judged o result) (some r) before before) e (record { answer = refl; lent = refl }))

  -- the same for what a `?` returns
  pub lent_exits : {S : Type 0} (r : Result S declared-refusal.Refusal) (e : declared-refusal.Refusal) → IsErrAnd r (λ y. y ≡ e)
      → some (refusal e) ≡ o → LentAnswer (judged o result) (refusal_in r) before before
  lent_exits r e exit says = lent_refuses (refusal_in r) (refusal e) (exits r e exit) says

  pub lent-fills : {after : T} → none ≡ o → after ≡ result → LentAnswer (judged o result) none before after
  lent-fills {after} free e =
      subst (λ (o : Option Refusal). LentAnswer (judged o result) none before after) free (record { answer = refl; lent = e })
