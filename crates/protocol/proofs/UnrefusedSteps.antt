-- What it means that nothing refuses a step: it is its turn, with sizes that are allowed, its words are field words, its challenge is
-- outside its forbidden domain and its declared lengths are within the table. And where this holds nothing refuses it. Assumes nothing.
use mathlib.Core.Path.{◌≡◌, ap, ap₂}
use mathlib.Core.Logic.{◌↔◌}
use mathlib.Core.Bool.{Bool, true, not, ◌&&◌}
use mathlib.Core.List.{List, [], ◌∷◌, ◌++◌}
use mathlib.Core.Option.{Option, none}
use Prim.Native.Nat.{ℕ, ◌<◌}
use lib.Dec.{eqb}
use lib.ListN.{length}
use borrow.Author.Tests.{eqb-true, eq-eqb, not-true}
use Rattle.algebra.specs.Counting.{All}
use Rattle.field.specs.Prime.{Prime}
use Rattle.field.specs.Element.{of}
use Rattle.domain.specs.Domain.{inside, Outside}
use Rattle.protocol.specs.Three.{Three, listed}
use Rattle.protocol.specs.Circuit.{Sizes, largest}
use Rattle.protocol.specs.Checks.{Openings, list_openings}
use Rattle.protocol.specs.Messages.{MessageLengths, lengths}
use Rattle.protocol.specs.Refusals.{Refusal, first, begins_with_one, six_size_tests}
use Rattle.protocol.specs.Refusals.{turn_refusal, size_refusal, list_refusal, word_refusal, challenge_refusal, length_refusal}
use Rattle.protocol.specs.Session.{Session, all, in_turn, left_by_steps}
use Rattle.protocol.specs.Session.{open_refusals, open_refusal, alpha_refusal, eta_refusal, beta_refusal, delta_refusal, gamma_refusal, openings_refusal}
use Rattle.protocol.proofs.RefusalLaws.{first-none, none_first, refuse-none, none-refuse, and-true, true-all, all_true, Within}
use Rattle.protocol.proofs.RefusalLaws.{word_refusal-none, none-word_refusal, constant_refusal-none, none-constant_refusal}
use Rattle.protocol.proofs.RefusalLaws.{length_refusal-none, none-length_refusal}

-- 1 passes: as many steps were taken as come before the step, and the sizes are allowed
pub record InTurn (n stage : ℕ) (s : Sizes) : Type 0 where
  pub stage_is : stage ≡ n
  pub sizes-allowed : All (λ t. t ≡ true) (six_size_tests s)

module _ (n stage : ℕ) (s : Sizes) where
  pub in_turn_lem : in_turn n stage s ≡ true → InTurn n stage s
  unfolding in_turn
  in_turn_lem e =
      let (same, sized) = and-true (eqb stage n) (all (six_size_tests s)) e in
      record { stage_is = eqb-true stage n same; sizes-allowed = true-all (six_size_tests s) sized }

  turn_true : InTurn n stage s → in_turn n stage s ≡ true
  unfolding in_turn
  turn_true turn = ap₂ ◌&&◌ (eq-eqb stage n turn.stage_is) (all_true (six_size_tests s) turn.sizes-allowed)

  turn_passes : turn_refusal (in_turn n stage s) ≡ none ↔ InTurn n stage s
  unfolding turn_refusal
  turn_passes = (
    λ free. in_turn_lem (refuse-none 1 0 (in_turn n stage s ∷ []) free).0,
    λ turn. none-refuse 1 0 (in_turn n stage s ∷ []) (turn_true turn, tt),
  )

-- public words as an opening takes them
pub record PublicWords (q : Prime) (s : Sizes) (x : List ℕ) : Type 0 where
  pub x-length : length x ≡ s.|X|
  pub x_below : All (λ w. w < q.p) x
  pub x-begins : begins_with_one x ≡ true

pub open_passes : (q : Prime) (s : Sizes) (x : List ℕ) → open_refusal q s x ≡ none ↔ All (λ t. t ≡ true) (six_size_tests s) × PublicWords q s x
unfolding open_refusal size_refusal list_refusal
open_passes q s x = (
  λ free.
      (let rows = first-none (open_refusals q s x) free in (
        refuse-none 4 0 (six_size_tests s) rows.0,
        record {
          x-length = eqb-true _ _ (refuse-none 5 0 (eqb (length x) s.|X| ∷ []) rows.1.0).0;
          x_below = word_refusal-none q x rows.1.1.0;
          x-begins = constant_refusal-none x rows.1.1.1.0;
        },
      )),
  λ (sized, public).
      none_first (open_refusals q s x) (
        none-refuse 4 0 (six_size_tests s) sized,
        (
          none-refuse 5 0 (eqb (length x) s.|X| ∷ []) (eq-eqb _ _ public.x-length, tt),
          (none-word_refusal q x public.x_below, (none-constant_refusal x public.x-begins, tt)),
        ),
      ),
)

-- a step that hears one challenge, which must not be in the domain of k elements, and takes lengths
pub record Challenged (q : Prime) (n stage : ℕ) (s : Sizes) (k y : ℕ) (lent most : List ℕ) : Type 0 where
  pub turn : InTurn n stage s
  pub below : y < q.p
  pub outside : Outside {q = q} k (of y)
  pub within : Within lent most

module _ (q : Prime) (stage : ℕ) (s : Sizes) where
  module _ (n position k y : ℕ) (lent most : List ℕ) where
    abbrev challenge_rows : List (Option Refusal)
    challenge_rows =
        turn_refusal (in_turn n stage s)
        ∷ word_refusal q (y ∷ [])
        ∷ challenge_refusal {q = q} position (k ∷ []) (of y ∷ [])
        ∷ length_refusal lent most
        ∷ []

    challenge_passes : first challenge_rows ≡ none ↔ Challenged q n stage s k y lent most
    unfolding challenge_refusal
    challenge_passes =
        let test : List Bool = not (inside {q = q} k (of y)) ∷ [] in (
          λ free.
              (let rows = first-none challenge_rows free in
              record {
                turn = (turn_passes n stage s).0 rows.0;
                below = (word_refusal-none q (y ∷ []) rows.1.0).0;
                outside = not-true _ (refuse-none 10 position test rows.1.1.0).0;
                within = length_refusal-none lent most rows.1.1.1.0;
              }),
          λ heard.
              none_first challenge_rows (
                (turn_passes n stage s).1 heard.turn,
                (
                  none-word_refusal q (y ∷ []) (heard.below, tt),
                  (none-refuse 10 position test (ap not heard.outside, tt), (none-length_refusal lent most heard.within, tt)),
                ),
              ),
        )

  abbrev table : MessageLengths
  table = lengths s

  pub alpha_passes : (w m h α : ℕ)
      → alpha_refusal q stage s w m h α ≡ none
      ↔ Challenged q 1 stage s s.|R| α (w ∷ m ∷ h ∷ []) (table.witness ∷ table.mask ∷ table.row_quotient ∷ [])
  unfolding alpha_refusal
  alpha_passes w m h α = challenge_passes 1 0 s.|R| α _ _

  pub eta_passes : (σ η : Three ℕ) → eta_refusal q stage s σ η ≡ none ↔ InTurn 2 stage s × All (λ w. w < q.p) (listed σ ++ listed η)
  unfolding eta_refusal
  eta_passes σ η =
      let ws : List ℕ = listed σ ++ listed η in
      let rows : List (Option Refusal) = turn_refusal (in_turn 2 stage s) ∷ word_refusal q ws ∷ [] in (
        λ free. let r = first-none rows free in ((turn_passes 2 stage s).0 r.0, word_refusal-none q ws r.1.0),
        λ (turn, below). none_first rows ((turn_passes 2 stage s).1 turn, (none-word_refusal q ws below, tt)),
      )

  pub beta_passes : (g h β : ℕ)
      → beta_refusal q stage s g h β ≡ none ↔ Challenged q 3 stage s s.|C| β (g ∷ h ∷ []) (table.line_remainder ∷ table.line_quotient ∷ [])
  unfolding beta_refusal
  beta_passes g h β = challenge_passes 3 1 s.|C| β _ _

  pub delta_passes : (ω g δ : Three ℕ)
      → delta_refusal q stage s ω g δ ≡ none
      ↔ InTurn 4 stage s × All (λ w. w < q.p) (listed ω ++ listed δ) × Within (listed g) (listed table.matrix_remainders)
  unfolding delta_refusal
  delta_passes ω g δ =
      let ws : List ℕ = listed ω ++ listed δ in
      let most : List ℕ = listed table.matrix_remainders in
      let rows : List (Option Refusal) = turn_refusal (in_turn 4 stage s) ∷ word_refusal q ws ∷ length_refusal (listed g) most ∷ [] in (
        λ free.
            (let r = first-none rows free in
            ((turn_passes 4 stage s).0 r.0, word_refusal-none q ws r.1.0, length_refusal-none (listed g) most r.1.1.0)),
        λ (turn, below, within).
            none_first rows ((turn_passes 4 stage s).1 turn, (none-word_refusal q ws below, (none-length_refusal (listed g) most within, tt))),
      )

  pub gamma_passes : (h γ : ℕ)
      → gamma_refusal q stage s h γ ≡ none ↔ Challenged q 5 stage s (largest s.|K|) γ (h ∷ []) (table.joined_quotient ∷ [])
  unfolding gamma_refusal
  gamma_passes h γ = challenge_passes 5 2 (largest s.|K|) γ _ _

-- the last step, whose turn has one test more: what the session holds is what steps could have left
pub openings-passes : (q : Prime) (u : Session) (o : Openings ℕ)
    → openings_refusal q u o ≡ none ↔ InTurn 6 u.stage u.sizes × (left_by_steps q u ≡ true) × All (λ w. w < q.p) (list_openings o)
unfolding openings_refusal turn_refusal
openings-passes q u o =
    let test : Bool = in_turn 6 u.stage u.sizes && left_by_steps q u in
    let rows : List (Option Refusal) = turn_refusal test ∷ word_refusal q (list_openings o) ∷ [] in (
      λ free.
          (let r = first-none rows free in
          let (turn, left) = and-true (in_turn 6 u.stage u.sizes) (left_by_steps q u) (refuse-none 1 0 (test ∷ []) r.0).0 in
          (in_turn_lem 6 u.stage u.sizes turn, left, word_refusal-none q (list_openings o) r.1.0)),
      λ (turn, left, below).
          none_first rows
          (none-refuse 1 0 (test ∷ []) (ap₂ ◌&&◌ (turn_true 6 u.stage u.sizes turn) left, tt), (none-word_refusal q (list_openings o) below, tt)),
    )
