-- The module's prime qualifies: its generators have their orders. A prime that qualifies leaves every check more allowed points
-- than its degree. Assumes nothing.
use mathlib.Core.Path.{◌≡◌, refl, ap, subst⁻¹}
use Prim.Native.Nat.{ℕ, ◌*◌, ◌%◌, ◌<◌}
use lib.Dec.{lit<}
use native.Mathlib.Omega.{arith}
use native.Mathlib.Decide.{dec_lt, ℕ_discrete}
use native.Mathlib.Nat.{mod-eq_of_lt}
use Rattle.field.specs.Prime.{Prime}
use Rattle.field.specs.Element.{of, 𝟙}
use Rattle.domain.specs.Size.{max_size}
use Rattle.domain.specs.Qualifies.{Qualifies}
use Rattle.domain.specs.BabyBear.{baby_bear}
use Rattle.domain.specs.Known.{Known, KnownPrime, Modulus}
use Rattle.domain.proofs.GeneratorLaws.{root_order}

pub one_word : (q : Prime) → (𝟙 {q = q}).word ≡ 1
unfolding of
one_word q = mod-eq_of_lt (omega (arith, q.above_two))

pub baby_bear-qualifies : Qualifies baby_bear
baby_bear-qualifies = record { small = lit< tt; divided = refl; orders = root_order }

abbrev pub baby_bear-known : KnownPrime baby_bear.p
baby_bear-known = record { prime = baby_bear; known = record { is_module = refl; value = refl } }

pub baby_bear_modulus : Modulus baby_bear.p
baby_bear_modulus = (lit< tt, baby_bear-known)

pub known-qualifies : {q : Prime} {p : ℕ} → Known q p → Qualifies q
known-qualifies K = subst⁻¹ Qualifies K.is_module baby_bear-qualifies

-- p - 1 is a multiple of 1,024, and neither 1,025 = 5 · 205 nor 2,049 = 3 · 683 is prime
pub large_enough : (q : Prime) → Qualifies q → 3 * max_size < q.p
large_enough q Q = elim (dec_lt (3 * max_size) q.p) [ yes h ↦ h | no h ↦ absurd (small h (ℕ_discrete q.p 1025)) ]
  where
    small : ¬ (3 * max_size < q.p) → Dec (q.p ≡ 1025) → ⊥
    small h (yes e) = q.undivided 5 (omega arith) (omega arith) (ap (λ n. n % 5) e)
    small h (no ne) =
        let e : q.p ≡ 2049 = omega (arith, Q.divided, q.above_two) in
        q.undivided 3 (omega arith) (omega arith) (ap (λ n. n % 3) e)
