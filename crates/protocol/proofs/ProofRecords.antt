-- The record of an honest proof: its messages have the lengths of their sections, and each is read back from its own. Assumes nothing.
use mathlib.Core.Path.{◌≡◌, refl, ap, ◌∙◌}
use mathlib.Core.List.{List, [], ◌∷◌, ◌++◌, map, foldr}
use mathlib.Core.Option.{none}
use Prim.Native.Nat.{ℕ, ◌<◌}
use lib.ListN.{length, get_or}
use Rattle.algebra.specs.Counting.{All}
use Rattle.algebra.proofs.Counting.{all_append}
use Rattle.field.specs.Prime.{Prime}
use Rattle.field.specs.Element.{Elem, word_of, words}
use Rattle.domain.specs.Polynomial.{Poly}
use Rattle.domain.specs.Qualifies.{Qualifies}
use Rattle.protocol.specs.Three.{A, B, C}
use Rattle.protocol.specs.Circuit.{Sizes, sizes_of}
use Rattle.protocol.specs.Messages.{Messages, MessageLengths, map_messages, lengths_of, lengths}
use Rattle.protocol.specs.Refusals.{Done, six_size_tests, size_refusal}
use Rattle.protocol.specs.Record.{sections, section_lengths, bytes_of, words_in, write_record, read_record}
use Rattle.protocol.specs.Job.{Job, job_refusal, proof}
use Rattle.protocol.specs.Demand2.{Recorded, ProofRecorded}
use Rattle.protocol.proofs.AdmissionLaws.{job-fits}
use Rattle.protocol.proofs.Conversation.{six_sizes}
use Rattle.protocol.proofs.Honest.{rules-kept}
use Rattle.protocol.proofs.JudgedSessions.{words-below, lengths_back}
use Rattle.protocol.proofs.RecordLaws.{read-written}
use Rattle.protocol.proofs.RefusalLaws.{none-refuse, none-word_refusal}

-- lists of elements, one after the other, in words
joined-below : {q : Prime} (ls : List (List (Elem q))) → All (λ w. w < q.p) (foldr ◌++◌ [] (map words ls))
joined-below [] = tt
joined-below {q} (l ∷ ls) = all_append (λ w. w < q.p) (words l) (foldr ◌++◌ [] (map words ls)) (words-below l) (joined-below ls)

module _ (q : Prime) (Q : Qualifies q) (j : Job) (free : job_refusal q j ≡ none) where
  abbrev s : Sizes
  s = sizes_of j.circuit

  abbrev sent : Messages (Poly q) (Elem q)
  sent = proof q j

  abbrev parts : List (List ℕ)
  parts = sections (map_messages words word_of sent)

  -- in words, too, its messages have the lengths of the table
  pub lengths-due : lengths_of (map_messages words word_of sent) ≡ lengths s
  lengths-due =
      let K = rules-kept q Q j free in
      lengths_back sent
      ∙ (λ i.
      record {
        witness = K.witness-length i;
        mask = K.mask-length i;
        row_quotient = K.row_quotient-length i;
        line_remainder = K.line_remainder-length i;
        line_quotient = K.line_quotient-length i;
        matrix_remainders = record { a = K.matrix_remainder-length A i; b = K.matrix_remainder-length B i; c = K.matrix_remainder-length C i };
        joined_quotient = K.joined_quotient-length i;
      })

  lengths-given : map length parts ≡ section_lengths s
  unfolding sections section_lengths
  lengths-given =
      ap
      (λ (l : MessageLengths).
      l.witness ∷ l.mask ∷ l.row_quotient ∷ 3 ∷ l.line_remainder ∷ l.line_quotient ∷ 3
      ∷ l.matrix_remainders.a ∷ l.matrix_remainders.b ∷ l.matrix_remainders.c ∷ l.joined_quotient ∷ [])
      lengths-due

  read_back : (read_record (write_record s parts) q ≡ Done (record { sizes = s; parts = map bytes_of parts })) × (map words_in (map bytes_of parts) ≡ parts)
  unfolding size_refusal sections
  read_back =
      read-written q Q s parts
      (none-refuse 4 0 (six_size_tests s) (six_sizes q j.circuit (job-fits q j free).circuit-fits))
      lengths-given
      (none-word_refusal q (foldr ◌++◌ [] parts) (joined-below (sections sent)))

  -- place k of the lists of lengths and of parts
  place : (k : ℕ)
      → (get_or (map length parts) k 0 ≡ get_or (section_lengths s) k 0) × (get_or (map words_in (map bytes_of parts)) k [] ≡ get_or parts k [])
  place k = (ap (λ (l : List ℕ). get_or l k 0) lengths-given, ap (λ (l : List (List ℕ)). get_or l k []) read_back.1)

  recorded : Recorded q s (map_messages words word_of sent)
  unfolding sections
  recorded =
      record {
        found = record { sizes = s; parts = map bytes_of parts };
        read = read_back.0;
        sizes = refl;
        eleven = refl;
        w = place 0;
        m = place 1;
        h0 = place 2;
        s = place 3;
        g1 = place 4;
        h1 = place 5;
        o = place 6;
        ga = place 7;
        gb = place 8;
        gc = place 9;
        h2 = place 10;
      }

pub proof_recorded : (q : Prime) → Qualifies q → ProofRecorded q
proof_recorded = recorded
