-- Bytes have at most one fault, and none where they spell a library.
use Rattle.std.proofs.Common.{◌≡◌, ◌≢◌, ◌⊎◌, inl, inr, ℕ, List, [], ◌∷◌, ◌++◌, length, refl, sym, ap, subst, ◌∙◌, append_assoc, arith}
use Rattle.std.proofs.lemmas.List.{append-nil}
use Rattle.gds_records.specs.declared.error.Demand.TheVariants.{Units, Outline, Transform, Track, NewName}
use Rattle.gds_records.specs.Record.{StreamRecord, AreFormed}
use Rattle.gds_records.specs.Bytes.{AreZero, records_bytes, code_in}
use Rattle.gds_records.specs.Spelling.{IsAtEnd, all_count}
use Rattle.gds_records.proofs.CompareLaws.{Compared, equal, shorter, longer, compared}
use Rattle.gds_library.specs.declared.fault.GdsFault.{GdsFault}
use Rattle.gds_library.specs.declared.fault.GdsFault.TheVariants as fault
use Rattle.gds_library.specs.declared.library.Library.{Library}
use Rattle.gds_library.specs.Grammar.{library}
use Rattle.gds_library.specs.FirstFault.{IsBegun, Stands, IsFaultOf}
use Rattle.gds_library.specs.OneFault.{FaultsAreUnique, FaultsExcludeLibraries}
use Rattle.gds_library.proofs.NamedLaws.{not_zero}
use Rattle.gds_library.proofs.OneFaultGrammar.{whole_ends}
use Rattle.gds_library.proofs.OneFaultKinds.{Kind, cut_short, ill, misplaced, lacking, fault_named, IsWrong, code_here, one_kind, no_more}

-- a fault that stands at a record
record Standing (bytes : List ℕ) (f : GdsFault) : Type 0 where
  done : List StreamRecord
  rest : List ℕ
  at : ℕ
  kind : Kind
  stands : Stands bytes done rest at
  wrong : IsWrong kind done rest
  named : f ≡ fault_named at (code_in rest) kind

-- the records of a whole library, and the bytes after them
record IsWhole (bytes : List ℕ) (records : List StreamRecord) (tail : List ℕ) : Type 0 where
  parts : bytes ≡ records_bytes records ++ tail
  formed : AreFormed records
  lib : Library
  order : library lib all_count IsAtEnd records

-- a byte that isn't zero after the library
record Trailing (bytes : List ℕ) (f : GdsFault) : Type 0 where
  records : List StreamRecord
  zeros : List ℕ
  b : ℕ
  more : List ℕ
  whole : IsWhole bytes records (zeros ++ b ∷ more)
  zero : AreZero zeros
  off : b ≢ 0
  named : f ≡ fault.TrailingBytes (length (records_bytes records ++ zeros))

-- each fault is of one of these forms
found : (bytes : List ℕ) (f : GdsFault) → f ≢ fault.Memory → IsFaultOf f bytes → Standing bytes f ⊎ Trailing bytes f
found bytes (fault.Truncated at) ne h =
    inl (record { done = h.0; rest = h.1; at = at; kind = cut_short; stands = h.2; wrong = h.3; named = refl })
found bytes (fault.BadRecord at code) ne h =
    inl (record {
      done = h.0;
      rest = h.1;
      at = at;
      kind = ill;
      stands = h.2;
      wrong = (h.3, h.5);
      named = ap (λ c. fault.BadRecord at c) h.4;
    })
found bytes (fault.NotInPlace at code) ne h =
    inl (record {
      done = h.0;
      rest = h.1;
      at = at;
      kind = misplaced;
      stands = h.3;
      wrong = (h.2, h.4, h.6);
      named = ap (λ c. fault.NotInPlace at c) (h.5 ∙ code_here h.1 h.0 h.2 h.4);
    })
found bytes (fault.BadUnits at) ne h =
    inl (record {
      done = h.0;
      rest = h.1;
      at = at;
      kind = lacking Units;
      stands = h.3;
      wrong = (h.2, h.4, (λ e. cc), h.5);
      named = refl;
    })
found bytes (fault.NotManhattan at) ne h =
    inl (record {
      done = h.0;
      rest = h.1;
      at = at;
      kind = lacking Outline;
      stands = h.3;
      wrong = (h.2, h.4, (λ e. cc), h.5);
      named = refl;
    })
found bytes (fault.BadTransform at) ne h =
    inl (record {
      done = h.0;
      rest = h.1;
      at = at;
      kind = lacking Transform;
      stands = h.3;
      wrong = (h.2, h.4, (λ e. cc), h.5);
      named = refl;
    })
found bytes (fault.BadPath at) ne h =
    inl (record {
      done = h.0;
      rest = h.1;
      at = at;
      kind = lacking Track;
      stands = h.3;
      wrong = (h.2, h.4, (λ e. cc), h.5);
      named = refl;
    })
found bytes (fault.Twice at) ne h =
    inl (record {
      done = h.0;
      rest = h.1;
      at = at;
      kind = lacking NewName;
      stands = h.3;
      wrong = (h.2, h.4, (λ e. cc), h.5);
      named = refl;
    })
found bytes (fault.TrailingBytes at) ne h = inr (record {
  records = h.0;
  zeros = h.1;
  b = h.2;
  more = h.3;
  whole = record { parts = h.4; formed = h.6; lib = h.7.0; order = h.7.1 };
  zero = h.8;
  off = h.9;
  named = ap (λ n. fault.TrailingBytes n) h.5;
})
found bytes fault.Memory ne h = absurd (ne refl)

-- what is begun with more records is begun with one
begun_once : (done : List StreamRecord) (e : StreamRecord) (more : List StreamRecord)
    → IsBegun all_count (done ++ e ∷ more) → IsBegun all_count (done ++ e ∷ [])
begun_once done e more b = (
  more ++ b.0,
  b.1,
  subst (library b.1 all_count IsAtEnd)
      (append_assoc done (e ∷ more) b.0 ∙ sym (append_assoc done (e ∷ []) (more ++ b.0))) b.2,
)

-- what is whole is begun
whole_begun : (lib : Library) (records : List StreamRecord) → library lib all_count IsAtEnd records
    → IsBegun all_count records
whole_begun lib records s = ([], lib, subst (library lib all_count IsAtEnd) (sym (append-nil records)) s)

-- a fault that stands where another does is that one
same_standing : (bytes : List ℕ) (f g : GdsFault) (s : Standing bytes f) (t : Standing bytes g)
    → Compared s.done s.rest t.done t.rest → f ≡ g
same_standing bytes f g s t (equal first second) =
    let place : s.at ≡ t.at = s.stands.offset ∙ ap (λ (l : List StreamRecord). length (records_bytes l)) first
    ∙ sym t.stands.offset in
    let here : IsWrong t.kind s.done s.rest =
    subst (λ (l : List StreamRecord). IsWrong t.kind l s.rest) (sym first)
    (subst (λ (l : List ℕ). IsWrong t.kind t.done l) (sym second) t.wrong) in
    let kind : s.kind ≡ t.kind = one_kind s.kind t.kind s.done s.rest s.wrong here in
    s.named ∙ (λ i. fault_named (place i) (code_in (second i)) (kind i)) ∙ sym t.named
same_standing bytes f g s t (shorter e more after goes parts formed) =
    absurd (no_more s.kind s.done s.rest e after s.wrong parts formed
    (begun_once s.done e more (subst (IsBegun all_count) goes t.stands.begun)))
same_standing bytes f g s t (longer e more after goes parts formed) =
    absurd (no_more t.kind t.done t.rest e after t.wrong parts formed
    (begun_once t.done e more (subst (IsBegun all_count) goes s.stands.begun)))

-- no fault stands at a record where a library is whole
no_standing : (bytes : List ℕ) (f : GdsFault) (records : List StreamRecord) (tail : List ℕ) (s : Standing bytes f)
    → IsWhole bytes records tail → Compared s.done s.rest records tail → ⊥
no_standing bytes f records tail s w (equal first second) =
    s.stands.open_end w.lib (subst (library w.lib all_count IsAtEnd) (sym first) w.order)
no_standing bytes f records tail s w (shorter e more after goes parts formed) =
    no_more s.kind s.done s.rest e after s.wrong parts formed
    (begun_once s.done e more (subst (IsBegun all_count) goes (whole_begun w.lib records w.order)))
no_standing bytes f records tail s w (longer e more after goes parts formed) =
    whole_ends w.lib records e more w.order (subst (IsBegun all_count) goes s.stands.begun)

-- the same, wherever the library's records end
none_whole : (bytes : List ℕ) (f : GdsFault) (records : List StreamRecord) (tail : List ℕ) → Standing bytes f
    → IsWhole bytes records tail → ⊥
none_whole bytes f records tail s w =
    no_standing bytes f records tail s w
    (compared s.done s.rest records tail s.stands.formed w.formed (sym s.stands.parts ∙ w.parts))

-- a library is whole at one place
same_whole : (bytes : List ℕ) (records : List StreamRecord) (tail : List ℕ) (others : List StreamRecord)
    (after : List ℕ) → IsWhole bytes records tail → IsWhole bytes others after → (records ≡ others) × (tail ≡ after)
same_whole bytes records tail others after w v =
    at (compared records tail others after w.formed v.formed (sym w.parts ∙ v.parts)) where
      at : Compared records tail others after → (records ≡ others) × (tail ≡ after)
      at (equal first second) = (first, second)
      at (shorter e more bytes goes parts formed) =
          absurd (whole_ends w.lib records e more w.order (subst (IsBegun all_count) goes (whole_begun v.lib others v.order)))
      at (longer e more bytes goes parts formed) =
          absurd (whole_ends v.lib others e more v.order (subst (IsBegun all_count) goes (whole_begun w.lib records w.order)))

-- the first byte that isn't zero stands at one place
same_zeros : (zeros : List ℕ) (b : ℕ) (more others : List ℕ) (c : ℕ) (after : List ℕ) → AreZero zeros → AreZero others
    → b ≢ 0 → c ≢ 0 → zeros ++ b ∷ more ≡ others ++ c ∷ after → zeros ≡ others
same_zeros [] b more [] c after are also off out is = refl
same_zeros [] b more (z ∷ others) c after are also off out is = let first : b ≡ z = cc in absurd (off (first ∙ also.0))
same_zeros (z ∷ zeros) b more [] c after are also off out is = let first : z ≡ c = cc in
    absurd (out (sym first ∙ are.0))
same_zeros (z ∷ zeros) b more (y ∷ others) c after are also off out is =
    let first : z ≡ y = cc in
    let tails : zeros ++ b ∷ more ≡ others ++ c ∷ after = cc in
    let rest = same_zeros zeros b more others c after are.1 also.1 off out tails in
    λ i. first i ∷ rest i

same_trailing : (bytes : List ℕ) (f g : GdsFault) → Trailing bytes f → Trailing bytes g → f ≡ g
same_trailing bytes f g s t =
    let both = same_whole bytes s.records (s.zeros ++ s.b ∷ s.more) t.records (t.zeros ++ t.b ∷ t.more) s.whole
    t.whole in
    let zeros = same_zeros s.zeros s.b s.more t.zeros t.b t.more s.zero t.zero s.off t.off both.1 in
    s.named ∙ (λ i. fault.TrailingBytes (length (records_bytes (both.0 i) ++ zeros i))) ∙ sym t.named

pub faults_are_unique : FaultsAreUnique
faults_are_unique bytes f g ne off h k = elim (found bytes f ne h) [
  | inl s ↦ elim (found bytes g off k) [
    | inl t ↦ same_standing bytes f g s t
        (compared s.done s.rest t.done t.rest s.stands.formed t.stands.formed (sym s.stands.parts ∙ t.stands.parts))
    | inr t ↦ absurd (none_whole bytes f t.records _ s t.whole)
  ]
  | inr s ↦ elim (found bytes g off k) [
    | inl t ↦ absurd (none_whole bytes g s.records _ t s.whole)
    | inr t ↦ same_trailing bytes f g s t
  ]
]

pub faults_exclude_libraries : FaultsExcludeLibraries
faults_exclude_libraries bytes lib f ne h s =
    let whole : IsWhole bytes s.records s.zeros =
    record { parts = s.parts; formed = s.formed; lib = lib; order = s.order } in
    elim (found bytes f ne h) [
      | inl t ↦ none_whole bytes f s.records s.zeros t whole
      | inr t ↦
          let both = same_whole bytes t.records (t.zeros ++ t.b ∷ t.more) s.records s.zeros t.whole whole in
          not_zero (t.zeros ++ t.b ∷ t.more) (t.b ∷ t.more) (record { zeros = t.zeros; parts = refl; zero = t.zero })
          t.off (omega arith) (subst AreZero (sym both.1) s.zero)
    ]
