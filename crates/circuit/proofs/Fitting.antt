-- Calls with a circuit that the table of refusals lets through: what is known of their inputs. Assumes nothing.
use mathlib.Core.Path.{◌≡◌, refl, sym, ap, ◌∙◌, subst⁻¹}
use mathlib.Core.Bool.{Bool, true, not}
use mathlib.Core.List.{List, [], ◌∷◌, ◌++◌, map}
use mathlib.Core.Option.{none}
use Prim.Native.Nat.{ℕ, ◌≤◌, ◌<◌}
use native.Mathlib.Omega.{arith}
use lib.Dec.{eqb}
use lib.ListN.{length}
use borrow.Author.Tests.{eqb-true, le-leb}
use Rattle.algebra.specs.Counting.{All}
use Rattle.algebra.proofs.Counting.{append_all}
use Rattle.field.specs.Prime.{Prime}
use Rattle.field.specs.Element.{Elem, of}
use Rattle.domain.specs.Size.{max_size, is_size, size_for}
use Rattle.domain.specs.Domain.{inside}
use Rattle.protocol.specs.Three.{Three}
use Rattle.protocol.specs.Circuit.{Circuit, sizes_of, largest}
use Rattle.protocol.specs.Index.{Index}
use Rattle.protocol.specs.Refusals.{refuse, pairs, size_tests}
use Rattle.protocol.specs.Refusals.{size_refusal, list_refusal, word_refusal, entry_refusal, challenge_refusal}
use Rattle.protocol.specs.Admission.{Admitted, assignment_tests, count_tests, entry_values, circuit_refusals, refusals_after_circuit}
use Rattle.protocol.specs.Calls.{CircuitWords, entries_of, circuit_of, entry_list_tests, round_refusal}
use Rattle.protocol.proofs.RefusalLaws.{first-none, none_first, refuse-none, none-refuse, word_refusal-none, none-word_refusal}
use Rattle.protocol.proofs.AdmissionLaws.{admitted_well_formed}
use Rattle.protocol.proofs.EntryLists.{length-entries_of}
use Rattle.circuit.specs.Given.{given, prover_input, Fits, EntryWords, ThreeLists, CircuitShaped, Shaped, EachWithin}
use Rattle.circuit.specs.Judgement.{index_shape_refusal, shape_refusal, circuit_refusal, index_due, index_refusal}
use Rattle.circuit.specs.Judgement.{index_contents_refusal, contents_refusal}
use Rattle.circuit.specs.IndexLists.{twelve_lengths, IndexLengths}
use Rattle.circuit.proofs.Parts.{index_in_parts, circuit_in_parts, prover_in_parts, index_shape_fits, shape_fits, entries-within}

-- 1,024 entries at most
pub few-entries : (l : List ℕ) → EntryWords l → length (entries_of l) ≤ max_size
few-entries l h = omega (arith, length-entries_of l, h.few)

-- the four slices that are lent for a matrix have length |K_M|
abbrev FourFit : List ℕ → Index (List ℕ) → Type 0
FourFit l t = IndexLengths (size_for (length (entries_of l))) t.row t.col t.rowcol t.rowcolval

module _ (l : List ℕ) (t : Index (List ℕ)) where
  abbrev passes : List ℕ → Type 0
  passes s = eqb (length s) (size_for (length (entries_of l))) ≡ true

  four_fit : passes t.row → passes t.col → passes t.rowcol → passes t.rowcolval → FourFit l t
  four_fit row col rowcol rowcolval =
      record {
        row-length = eqb-true _ _ row;
        col-length = eqb-true _ _ col;
        rowcol-length = eqb-true _ _ rowcol;
        rowcolval-length = eqb-true _ _ rowcolval;
      }

module _ (r c x : ℕ) (ea eb ec : List ℕ) where
  abbrev words : CircuitWords
  words = given r c x ea eb ec

  -- the sizes pass 4
  shape_size : (z m : List ℕ) → shape_refusal words z m ≡ none → size_refusal (size_tests r c x []) ≡ none
  unfolding shape_refusal
  shape_size z m free =
      (first-none (size_refusal (size_tests r c x []) ∷ list_refusal (entry_list_tests words ++ assignment_tests (circuit_of words) z m) ∷ []) free).0

  counts_pass : ThreeLists ea eb ec → All (λ t. t ≡ true) (count_tests (circuit_of words))
  unfolding count_tests circuit_of
  counts_pass h =
      (le-leb _ _ (few-entries ea h.list-a), (le-leb _ _ (few-entries eb h.list-b), (le-leb _ _ (few-entries ec h.list-c), tt)))

  append_nil : (l : List ℕ) → l ++ [] ≡ l
  append_nil [] = refl
  append_nil (w ∷ l) = ap (λ m. w ∷ m) (append_nil l)

  -- a circuit that passes 4 to 7
  admitted : (q : Prime) (ws : List ℕ) → size_refusal (size_tests r c x []) ≡ none → ThreeLists ea eb ec
      → word_refusal q (entry_values (circuit_of words) ++ ws) ≡ none → entry_refusal (circuit_of words) ≡ none → Admitted q (circuit_of words)
  unfolding circuit_refusals list_refusal circuit_of
  admitted q ws size lists below entries =
      let values : List ℕ = entry_values (circuit_of words) in
      none_first (circuit_refusals q (circuit_of words) (count_tests (circuit_of words)) []) (
        size,
        (
          none-refuse 5 0 (count_tests (circuit_of words)) (counts_pass lists),
          (
            ap (word_refusal q) (append_nil values)
                ∙ none-word_refusal q values (append_all (λ w. w < q.p) values ws (word_refusal-none q (values ++ ws) below)).0,
            (entries, tt),
          ),
        ),
      )

  -- α, β, γ are outside R, C, K
  abbrev pub point_tests : (q : Prime) → List ℕ → List Bool
  point_tests q points = pairs (λ n (y : Elem q). not (inside n y)) (r ∷ c ∷ largest (sizes_of (circuit_of words)).|K| ∷ []) (map of points)

  module _ (q : Prime) (z m : List ℕ) (mask : ℕ) (lent due challenges points : List ℕ) where
    -- what a round that is let through brings
    pub record RoundFits : Type 0 where
      pub fits : Fits q.p r c x ea eb ec z m
      pub lent_fit : All (λ t. t ≡ true) (pairs eqb lent due)
      pub outside : All (λ t. t ≡ true) (point_tests q points)

    pub round_fits : round_refusal q (prover_input r c x ea eb ec z mask m) lent due challenges points ≡ none → RoundFits
    unfolding round_refusal contents_refusal challenge_refusal circuit_of
    round_fits free =
        let k : Circuit = circuit_of words in
        let parts =
        first-none (shape_refusal words z m ∷ refuse 5 5 (pairs eqb lent due) ∷ contents_refusal q k z mask m challenges points ∷ [])
        (sym (prover_in_parts q words (pairs eqb lent due) z mask m challenges points) ∙ free) in
        let shape : Shaped r c ea eb ec z m = shape_fits r c x ea eb ec z m parts.0 in
        let contents =
        first-none
        (word_refusal q (entry_values k ++ (z ++ (mask ∷ (m ++ challenges)))) ∷ entry_refusal k ∷ refusals_after_circuit q k z m points)
        parts.1.1.0 in
        record {
          fits =
              record {
                well_formed =
                    admitted_well_formed q k
                    (admitted q (z ++ (mask ∷ (m ++ challenges))) (shape_size z m parts.0) shape.circuit.lists contents.0 contents.1.0);
                lists = shape.circuit.lists;
                within = entries-within r c x ea eb ec contents.1.0;
                z-length = shape.z-length;
                m-length = shape.m-length;
              };
          lent_fit = refuse-none 5 5 (pairs eqb lent due) parts.1.0;
          outside =
              refuse-none 10 0 (point_tests q points) contents.1.1.1.1.1.0;
        }

  -- what an indexer's call that is let through brings, where t are its lent slices
  module _ (q : Prime) (t : Three (Index (List ℕ))) where
    pub record IndexFits : Type 0 where
      pub shape : CircuitShaped r c ea eb ec
      pub lent-a : FourFit ea t.a
      pub lent-b : FourFit eb t.b
      pub lent-c : FourFit ec t.c

    pub index-fits : index_refusal q words (twelve_lengths t) ≡ none → IndexFits
    unfolding index_refusal index_due circuit_of
    index-fits free =
        let tests : List Bool = pairs eqb (twelve_lengths t) (index_due (circuit_of words).matrices) in
        let parts =
        first-none (index_shape_refusal words ∷ refuse 5 3 tests ∷ index_contents_refusal q (circuit_of words) ∷ [])
        (sym (index_in_parts q words tests) ∙ free) in
        let fit = refuse-none 5 3 tests parts.1.0 in
        record {
          shape = index_shape_fits r c x ea eb ec parts.0;
          lent-a = four_fit ea t.a fit.0 fit.1.0 fit.1.1.0 fit.1.1.1.0;
          lent-b = four_fit eb t.b fit.1.1.1.1.0 fit.1.1.1.1.1.0 fit.1.1.1.1.1.1.0 fit.1.1.1.1.1.1.1.0;
          lent-c =
              let last = fit.1.1.1.1.1.1.1.1 in four_fit ec t.c last.0 last.1.0 last.1.1.0 last.1.1.1.0;
        }

  -- what a circuit that is let through brings
  pub record CircuitFits : Type 0 where
    pub shape : CircuitShaped r c ea eb ec
    pub within : EachWithin r c ea eb ec

  pub circuit-fits : (q : Prime) → circuit_refusal q words ≡ none → CircuitFits
  unfolding index_contents_refusal
  circuit-fits q free =
      let k : Circuit = circuit_of words in
      let parts = first-none (index_shape_refusal words ∷ index_contents_refusal q k ∷ []) (sym (circuit_in_parts q words) ∙ free) in
      let contents = first-none (word_refusal q (entry_values k ++ []) ∷ entry_refusal k ∷ []) parts.1.0 in
      record {
        shape = index_shape_fits r c x ea eb ec parts.0;
        within = entries-within r c x ea eb ec contents.1.0;
      }

-- the sizes of a call that is let through
module _ {p r c x : ℕ} {ea eb ec z m : List ℕ} (F : Fits p r c x ea eb ec z m) where
  pub R-fits : is_size r ≡ true
  unfolding circuit_of
  R-fits = F.well_formed.R-size

  pub C-fits : is_size c ≡ true
  unfolding circuit_of
  C-fits = F.well_formed.C-size

  pub X-fits : is_size x ≡ true
  unfolding circuit_of
  X-fits = F.well_formed.X-size

  pub X-below : x ≤ c
  unfolding circuit_of
  X-below = F.well_formed.X-within

  pub shaped : CircuitShaped r c ea eb ec
  shaped = record { R-size = R-fits; C-size = C-fits; lists = F.lists }

  pub shares : EachWithin r (length z) ea eb ec
  shares = subst⁻¹ (λ (n : ℕ). EachWithin r n ea eb ec) F.z-length F.within
