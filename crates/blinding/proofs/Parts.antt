-- The rows of blinding in three parts: what the call is given, its lent slices, and its contents; and what is known where the first part
-- does not refuse, and where none does. Assumes nothing.
use mathlib.Core.Path.{◌≡◌, sym, ap, ◌∙◌}
use mathlib.Core.Bool.{Bool, true, ◌&&◌}
use mathlib.Core.List.{List, [], ◌∷◌, ◌++◌}
use mathlib.Core.Option.{Option, none}
use Prim.Native.Nat.{ℕ, ◌+◌, ◌*◌, ◌%◌}
use lib.Dec.{eqb, leb, ltb}
use lib.ListN.{length}
use native.Mathlib.Omega.{arith}
use borrow.Author.Tests.{eqb-true, ltb-true, leb-true}
use Rattle.field.specs.Prime.{Prime}
use Rattle.domain.specs.Size.{is_size, max_size}
use Rattle.protocol.specs.Three.{Three, listed, map_three}
use Rattle.protocol.specs.Circuit.{Circuit}
use Rattle.protocol.specs.Refusals.{Refusal, first, refuse, pairs, size_tests}
use Rattle.protocol.specs.Refusals.{size_refusal, list_refusal, word_refusal, entry_refusal, constant_refusal}
use Rattle.protocol.specs.Admission.{entry_values, circuit_refusals}
use Rattle.protocol.specs.Calls.{CircuitWords, circuit_of}
use Rattle.protocol.specs.Blinded.{private_columns, reservable, blinding_refusal, roomy_list_tests, blind_refusal}
use Rattle.protocol.proofs.PrivateColumns.{private_count}
use Rattle.protocol.proofs.RefusalLaws.{refuse-none, first-none, and-true}
use Rattle.protocol.proofs.Rows.{refuse_append}
use Rattle.circuit.specs.Given.{given}
use Rattle.circuit.proofs.Parts.{regroup}
use Rattle.blinding.specs.Given.{Roomy, Shaped, Fitting}
use Rattle.blinding.specs.Judgement.{whole_with_room, shape_refusal, contents_refusal}

-- the lengths that the lent slices must have
abbrev pub lengths_due : CircuitWords → List ℕ
lengths_due c = listed (map_three (λ l. length l + 3) c.matrices) ++ (c.|C| ∷ [])

pub blind_in_parts : (q : Prime) (c : CircuitWords) (z : List ℕ) (ρ lent : Three ℕ) (lentAssignment : ℕ)
    → blind_refusal q c z ρ lent lentAssignment
    ≡ first
    (shape_refusal c z
    ∷ refuse 5 4 (pairs eqb (lent.a ∷ lent.b ∷ lent.c ∷ lentAssignment ∷ []) (lengths_due c))
    ∷ contents_refusal q (circuit_of c) z ρ
    ∷ [])
unfolding blind_refusal circuit_refusals circuit_of list_refusal roomy_list_tests shape_refusal contents_refusal
blind_in_parts q c z ρ lent lentAssignment =
    let k : Circuit = circuit_of c in
    let size : Option Refusal = size_refusal (size_tests c.|R| c.|C| c.|X| []) in
    let lists : List Bool = roomy_list_tests c ++ (eqb (length z) c.|C| ∷ []) in
    let slices : List Bool = pairs eqb (lent.a ∷ lent.b ∷ lent.c ∷ lentAssignment ∷ []) (lengths_due c) in
    let rest : List (Option Refusal) =
    word_refusal q (entry_values k ++ (z ++ listed ρ)) ∷ entry_refusal k ∷ blinding_refusal k ∷ constant_refusal z ∷ [] in
    ap (λ (o : Option Refusal). first (size ∷ o ∷ rest)) (refuse_append 5 0 lists slices)
    ∙ regroup size (refuse 5 0 lists) (refuse 5 4 slices) rest

-- a list that passes its test
roomy : (l : List ℕ) → whole_with_room (length l) ≡ true → Roomy l
roomy l t =
    let (whole, room) = and-true (eqb (length l % 3) 0) (ltb (length l) (3 * max_size)) t in
    record { whole = eqb-true (length l % 3) 0 whole; room = ltb-true (length l) (3 * max_size) room }

pub shape_fits : (r c x : ℕ) (ea eb ec z : List ℕ) → shape_refusal (given r c x ea eb ec) z ≡ none → Shaped r c x ea eb ec z
unfolding shape_refusal size_refusal size_tests list_refusal roomy_list_tests
shape_fits r c x ea eb ec z free =
    let sizes : List Bool = is_size r ∷ is_size c ∷ (is_size x && leb x c) ∷ [] in
    let lists : List Bool = whole_with_room (length ea) ∷ whole_with_room (length eb) ∷ whole_with_room (length ec) ∷ eqb (length z) c ∷ [] in
    let (size, (list, _)) = first-none (refuse 4 0 sizes ∷ refuse 5 0 lists ∷ []) free in
    let (R-size, (C-size, (publics, _))) = refuse-none 4 0 sizes size in
    let (X-size, X-within) = and-true (is_size x) (leb x c) publics in
    let (a, (b, (d, (all, _)))) = refuse-none 5 0 lists list in
    record {
      sized = record { R-size = R-size; C-size = C-size; X-size = X-size; X-within = leb-true x c X-within };
      list-a = roomy ea a;
      list-b = roomy eb b;
      list-c = roomy ec d;
      z-length = eqb-true (length z) c all;
    }

-- and what is known where nothing is refused
pub call_fits : (q : Prime) (r c x : ℕ) (ea eb ec z : List ℕ) (ρ : Three ℕ) (blindedA blindedB blindedC blindedZ : List ℕ)
    → blind_refusal q (given r c x ea eb ec) z ρ (record { a = length blindedA; b = length blindedB; c = length blindedC }) (length blindedZ)
    ≡ none
    → Fitting r c x ea eb ec z blindedA blindedB blindedC blindedZ
unfolding contents_refusal blinding_refusal circuit_of
call_fits q r c x ea eb ec z ρ blindedA blindedB blindedC blindedZ free =
    let w : CircuitWords = given r c x ea eb ec in
    let k : Circuit = circuit_of w in
    let lent : Three ℕ = record { a = length blindedA; b = length blindedB; c = length blindedC } in
    let slices : List Bool = pairs eqb (lent.a ∷ lent.b ∷ lent.c ∷ length blindedZ ∷ []) (lengths_due w) in
    let (shape, (lengths, (contents, _))) =
    first-none (shape_refusal w z ∷ refuse 5 4 slices ∷ contents_refusal q k z ρ ∷ []) (sym (blind_in_parts q w z ρ lent (length blindedZ)) ∙ free) in
    let (a, (b, (d, (all, _)))) = refuse-none 5 4 slices lengths in
    let (_, (_, (blinding, _))) =
    first-none (word_refusal q (entry_values k ++ (z ++ listed ρ)) ∷ entry_refusal k ∷ blinding_refusal k ∷ constant_refusal z ∷ []) contents in
    let (reserves, _) = refuse-none 15 0 (reservable k ∷ []) blinding in
    let S = shape_fits r c x ea eb ec z shape in
    let enough = leb-true 3 (length (private_columns k)) (and-true (leb 3 (length (private_columns k))) _ reserves).0 in
    record {
      shaped = S;
      enough = omega (arith, enough, private_count k S.sized.C-size S.sized.X-size S.sized.X-within);
      lent-a = eqb-true (length blindedA) (length ea + 3) a;
      lent-b = eqb-true (length blindedB) (length eb + 3) b;
      lent-c = eqb-true (length blindedC) (length ec + 3) d;
      lent-z = eqb-true (length blindedZ) c all;
    }
