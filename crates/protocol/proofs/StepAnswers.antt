-- Demand 1 for the steps of the session: which refuses first, and at which position. Assumes nothing.
use mathlib.Core.Path.{◌≡◌, refl, ap, ◌∙◌}
use mathlib.Core.Logic.{◌≢◌}
use mathlib.Core.Bool.{Bool, not, ◌&&◌}
use mathlib.Core.List.{List, [], ◌∷◌, ◌++◌, map}
use mathlib.Core.Option.{Option, none, some}
use Prim.Native.Nat.{ℕ, ◌<◌}
use lib.Dec.{eqb, ltb}
use lib.ListN.{length, get_or, take, drop}
use native.Mathlib.Omega.{arith}
use Rattle.algebra.specs.Counting.{All}
use Rattle.field.specs.Prime.{Prime}
use Rattle.field.specs.Element.{of}
use Rattle.domain.specs.Domain.{inside}
use Rattle.protocol.specs.Three.{Three, listed}
use Rattle.protocol.specs.Circuit.{Sizes, largest}
use Rattle.protocol.specs.Checks.{Openings, Transcript, Verdict, list_transcript, list_openings}
use Rattle.protocol.specs.Messages.{MessageLengths, lengths}
use Rattle.protocol.specs.Refusals.{Refusal, first, pairs, begins_with_one, six_size_tests, turn_refusal, word_refusal, challenge_refusal, length_refusal}
use Rattle.protocol.specs.Session.{Session, Stepped, Answer, Taken, Judged, Refused, unless, all, in_turn, all_below, public_fits, transcript_fits, left_by_steps, open_refusals, open_refusal}
use Rattle.protocol.specs.Session.{alpha_refusal, eta_refusal, beta_refusal, delta_refusal, gamma_refusal, openings_refusal, open_step, alpha_step, eta_step, beta_step, delta_step, gamma_step, ask_step, commit_step, verdict_of}
use Rattle.protocol.specs.Table.{Row, row, Hold, Refuses}
use Rattle.protocol.specs.Rows.{NoElement, six_size_conditions, InTurn, declared_row, words_row}
use Rattle.protocol.specs.Demand1.{Steps, open_rows, challenged_rows, Left, openings_rows}
use Rattle.protocol.proofs.TableLaws.{Tells, TellAll, Told, told, refuses, tells_equal, tells_less, tells_both, tells_as}
use Rattle.protocol.proofs.RowTests.{tell_six_sizes, sizes-told, lists-told, constant-told, declared_told, words-told, tells_outside, challenge_told}

-- a step that is judged by rows; what it answers where nothing refuses it is no refusal
steps :
    (rows : List Row) (o : Option Refusal) (answer : Answer) (s : Session) (next : Stepped) → Refuses rows o → next.answer ≡ answer
    → ((f : Refusal) → answer ≢ Refused f) → Steps rows answer s (unless o s next)
steps rows none answer s next R is other =
    record {
      met = λ h. is;
      taken = λ e. R.unrefused refl;
      first = λ f failing. ap (λ o. unless o s next) (R.first f failing);
      refused = λ f e. absurd (other f (cc (is, e)));
    }
steps rows (some r) answer s next R is other =
    record {
      met = λ h. ap (λ o. (unless o s next).answer) (R.met h) ∙ is;
      taken = λ e. absurd (other r (cc e));
      first = λ f failing. ap (λ o. unless o s next) (R.first f failing);
      refused = λ f e. R.refused f (cc e);
    }

taken_other : (f : Refusal) → Taken ≢ Refused f
taken_other f e = let z : ◌≡◌ {A = ℕ} 0 1 = cc in omega arith

judged_other : (v : Verdict) (f : Refusal) → Judged v ≢ Refused f
judged_other v f e = let z : ◌≡◌ {A = ℕ} 0 1 = cc in omega arith

-- all tests of a list
tells_all : (tests : List Bool) (conditions : List (Type 0)) → TellAll tests conditions → Tells (all tests) (Hold conditions)
tells_all [] [] told = (λ e. tt, λ h. refl)
tells_all [] (P ∷ k) told = absurd told
tells_all (t ∷ l) [] told = absurd told
tells_all (t ∷ l) (P ∷ k) told = tells_both t (all l) told.0 (tells_all l k told.1)

tells_every : {T : Type 0} (test : T → Bool) (P : T → Type 0) → ((a : T) → Tells (test a) (P a)) → (l : List T) → Tells (all (map test l)) (All P l)
tells_every test P tells [] = (λ e. tt, λ h. refl)
tells_every test P tells (a ∷ l) = tells_both (test a) (all (map test l)) (tells a) (tells_every test P tells l)

-- 1: the turn
tells_turn : (n : ℕ) (s : Session) → Tells (in_turn n s.stage s.sizes) (InTurn n s)
unfolding in_turn
tells_turn n s =
    tells_both (eqb s.stage n) (all (six_size_tests s.sizes)) (tells_equal s.stage n)
    (tells_all (six_size_tests s.sizes) (six_size_conditions s.sizes) (tell_six_sizes s.sizes))

turn_told : (t : Bool) (P : Type 0) → Tells t P → Told (turn_refusal t) (row 1 0 (P ∷ []))
unfolding turn_refusal
turn_told t P tells = told 1 0 (t ∷ []) (P ∷ []) (tells, tt)

module _ (q : Prime) where
  tells_below : (ws : List ℕ) → Tells (all_below q ws) (All (λ w. w < q.p) ws)
  tells_below = tells_every (λ w. ltb w q.p) (λ w. w < q.p) (λ w. tells_less w q.p)

  tells_left : (s : Session) → Tells (left_by_steps q s) (Left q s)
  unfolding left_by_steps public_fits transcript_fits
  tells_left s =
      let n : ℕ = s.sizes.|X| in
      let t : Transcript ℕ = s.transcript in
      let domains : List ℕ = s.sizes.|R| ∷ s.sizes.|C| ∷ largest s.sizes.|K| ∷ [] in
      let outside : List Bool = pairs (λ n y. not (inside {q = q} n y)) domains (of t.α ∷ of t.β ∷ of t.γ ∷ []) in
      let apart : List (Type 0) =
      NoElement {q = q} s.sizes.|R| (of t.α) ∷ NoElement {q = q} s.sizes.|C| (of t.β)
      ∷ NoElement {q = q} (largest s.sizes.|K|) (of t.γ) ∷ [] in
      tells_as (public_fits q n s.x && transcript_fits q s.sizes t)
      (tells_both (public_fits q n s.x) (transcript_fits q s.sizes t)
      (tells_both (begins_with_one s.x) (all_below q (take n s.x) && all (map (λ w. eqb w 0) (drop n s.x))) (tells_equal (get_or s.x 0 0) 1)
      (tells_both (all_below q (take n s.x)) (all (map (λ w. eqb w 0) (drop n s.x))) (tells_below (take n s.x))
      (tells_every (λ w. eqb w 0) (λ w. w ≡ 0) (λ w. tells_equal w 0) (drop n s.x))))
      (tells_both (all_below q (list_transcript t)) (all outside) (tells_below (list_transcript t))
      (tells_all outside apart (
        tells_outside q s.sizes.|R| (of t.α),
        (tells_outside q s.sizes.|C| (of t.β), (tells_outside q (largest s.sizes.|K|) (of t.γ), tt)),
      ))))
      (λ ((one, (below, zero)), (words, (α, (β, (γ, _))))).
      record { constant = one; public_words_lem = below; zeros = zero; transcript-words = words; α-outside = α; β-outside = β; γ-outside = γ })
      (λ h.
      ((h.constant, (h.public_words_lem, h.zeros)), (h.transcript-words, (h.α-outside, (h.β-outside, (h.γ-outside, tt))))))

  module _ (s : Session) where
    pub opens : (n : Sizes) (x : List ℕ) → Steps (open_rows q n x) Taken s (open_step q s n x)
    unfolding open_step open_refusal
    opens n x =
        steps (open_rows q n x) (open_refusal q n x) Taken s _
        (refuses (open_refusals q n x) (open_rows q n x) (
          sizes-told (six_size_tests n) (six_size_conditions n) (tell_six_sizes n),
          (
            lists-told (eqb (length x) n.|X| ∷ []) ((length x ≡ n.|X|) ∷ []) (tells_equal (length x) n.|X|, tt),
            (words-told q x, (constant-told x, tt)),
          ),
        ))
        refl taken_other

    -- a step with a challenge and declared lengths
    challenged :
        (n position d y : ℕ) (declared table : List ℕ)
        → Refuses (challenged_rows q s n position d y declared table)
        (first
        (turn_refusal (in_turn n s.stage s.sizes)
        ∷ word_refusal q (y ∷ []) ∷ challenge_refusal {q = q} position (d ∷ []) (of y ∷ []) ∷ length_refusal declared table ∷ []))
    challenged n position d y declared table =
        refuses
        (turn_refusal (in_turn n s.stage s.sizes)
        ∷ word_refusal q (y ∷ []) ∷ challenge_refusal {q = q} position (d ∷ []) (of y ∷ []) ∷ length_refusal declared table ∷ [])
        (challenged_rows q s n position d y declared table) (
          turn_told (in_turn n s.stage s.sizes) (InTurn n s) (tells_turn n s),
          (words-told q (y ∷ []), (challenge_told q position (d ∷ []) (y ∷ []), (declared_told declared table, tt))),
        )

    abbrev most : MessageLengths
    most = lengths s.sizes

    pub hears_α :
        (ŵ m h0 α : ℕ)
        → Steps (challenged_rows q s 1 0 s.sizes.|R| α (ŵ ∷ m ∷ h0 ∷ []) (most.witness ∷ most.mask ∷ most.row_quotient ∷ [])) Taken s
        (alpha_step q s ŵ m h0 α)
    unfolding alpha_step alpha_refusal
    hears_α ŵ m h0 α =
        steps _ (alpha_refusal q s.stage s.sizes ŵ m h0 α) Taken s _
        (challenged 1 0 s.sizes.|R| α (ŵ ∷ m ∷ h0 ∷ []) (most.witness ∷ most.mask ∷ most.row_quotient ∷ [])) refl taken_other

    pub hears_β :
        (g1 h1 β : ℕ)
        → Steps (challenged_rows q s 3 1 s.sizes.|C| β (g1 ∷ h1 ∷ []) (most.line_remainder ∷ most.line_quotient ∷ [])) Taken s (beta_step q s g1 h1 β)
    unfolding beta_step beta_refusal
    hears_β g1 h1 β =
        steps _ (beta_refusal q s.stage s.sizes g1 h1 β) Taken s _
        (challenged 3 1 s.sizes.|C| β (g1 ∷ h1 ∷ []) (most.line_remainder ∷ most.line_quotient ∷ [])) refl taken_other

    pub hears_γ :
        (h2 γ : ℕ) → Steps (challenged_rows q s 5 2 (largest s.sizes.|K|) γ (h2 ∷ []) (most.joined_quotient ∷ [])) Taken s (gamma_step q s h2 γ)
    unfolding gamma_step gamma_refusal
    hears_γ h2 γ =
        steps _ (gamma_refusal q s.stage s.sizes h2 γ) Taken s _
        (challenged 5 2 (largest s.sizes.|K|) γ (h2 ∷ []) (most.joined_quotient ∷ [])) refl taken_other

    pub hears_η : (σ η : Three ℕ) → Steps (row 1 0 (InTurn 2 s ∷ []) ∷ words_row q (listed σ ++ listed η) ∷ []) Taken s (eta_step q s σ η)
    unfolding eta_step eta_refusal
    hears_η σ η =
        let rows : List Row = row 1 0 (InTurn 2 s ∷ []) ∷ words_row q (listed σ ++ listed η) ∷ [] in
        steps rows (eta_refusal q s.stage s.sizes σ η) Taken s _
        (refuses (turn_refusal (in_turn 2 s.stage s.sizes) ∷ word_refusal q (listed σ ++ listed η) ∷ []) rows
        (turn_told (in_turn 2 s.stage s.sizes) (InTurn 2 s) (tells_turn 2 s), (words-told q (listed σ ++ listed η), tt)))
        refl taken_other

    pub hears_δ :
        (ω g δ : Three ℕ)
        → Steps (row 1 0 (InTurn 4 s ∷ []) ∷ words_row q (listed ω ++ listed δ) ∷ declared_row (listed g) (listed most.matrix_remainders) ∷ []) Taken s
        (delta_step q s ω g δ)
    unfolding delta_step delta_refusal
    hears_δ ω g δ =
        let rows : List Row =
        row 1 0 (InTurn 4 s ∷ []) ∷ words_row q (listed ω ++ listed δ) ∷ declared_row (listed g) (listed most.matrix_remainders) ∷ [] in
        steps rows (delta_refusal q s.stage s.sizes ω g δ) Taken s _
        (refuses
        (turn_refusal (in_turn 4 s.stage s.sizes)
        ∷ word_refusal q (listed ω ++ listed δ) ∷ length_refusal (listed g) (listed most.matrix_remainders) ∷ [])
        rows (
          turn_told (in_turn 4 s.stage s.sizes) (InTurn 4 s) (tells_turn 4 s),
          (words-told q (listed ω ++ listed δ), (declared_told (listed g) (listed most.matrix_remainders), tt)),
        ))
        refl taken_other

    module _ (o : Openings ℕ) where
      openings-refuse : Refuses (openings_rows q s o) (openings_refusal q s o)
      unfolding openings_refusal
      openings-refuse =
          let turn : Bool = in_turn 6 s.stage s.sizes in
          refuses (turn_refusal (turn && left_by_steps q s) ∷ word_refusal q (list_openings o) ∷ []) (openings_rows q s o) (
            turn_told (turn && left_by_steps q s) (InTurn 6 s × Left q s) (tells_both turn (left_by_steps q s) (tells_turn 6 s) (tells_left s)),
            (words-told q (list_openings o), tt),
          )

      pub asks : Steps (openings_rows q s o) (Judged (verdict_of q s o)) s (ask_step q s o)
      unfolding ask_step
      asks = steps (openings_rows q s o) (openings_refusal q s o) (Judged (verdict_of q s o)) s _ openings-refuse refl (judged_other (verdict_of q s o))

      pub commits : Steps (openings_rows q s o) (Judged (verdict_of q s o)) s (commit_step q s o)
      unfolding commit_step
      commits = steps (openings_rows q s o) (openings_refusal q s o) (Judged (verdict_of q s o)) s _ openings-refuse refl (judged_other (verdict_of q s o))
