use Rattle.std.proofs.Common.{◌≡◌, ℕ, true, false, Option, sym, ◌∙◌, ap, subst, arith}
use Rattle.gds_records.specs.Bytes.{length_in}
use Rattle.gds_records.specs.declared.error.Fault.TheVariants.{BadRecord, NotInPlace, Unmet}
use Rattle.gds_records.proofs.FileLaws.{are_bytes}
use Rattle.gds_library.specs.FirstFault.{IsCutShort}
use Rattle.gds_library.specs.ReadFault.{Miscounts}
use Rattle.gds_library.proofs.StandLaws.{stuck}
use Rattle.gds_library.proofs.NamedLaws.{at_short, at_unformed, at_miscounted, at_misplaced, at_unmet}
use Rattle.gds_library.proofs.read.fault_at.Goals as goal

-- the same test of the same values
counted : {code : ℕ} {a b : Option ℕ} {m n : ℕ} → a ≡ b → m ≡ n → Miscounts a code m → Miscounts b code n
counted {code} {a} {b} {m} {n} e f h =
    record { count = h.count; named = h.named; is = sym e ∙ h.is; other = λ g. h.other (f ∙ g) }

pub overflow_sub-from : goal.overflow_sub-from
overflow_sub-from c =
    let s = stuck c.args.bytes.now c.args.left c.args.code c.args.fault
    (are_bytes c.args.bytes.now (λ i. omega (arith, c.type_inv.bytes i))) (omega arith) c.requires in
    s.left_is

pub returns-then-is_cut_short : goal.returns-then-is_cut_short
returns-then-is_cut_short c =
    at_short c.args.bytes.now c.args.left c.args.code c.args.fault
    (stuck c.args.bytes.now c.args.left c.args.code c.args.fault
    (are_bytes c.args.bytes.now (λ i. omega (arith, c.type_inv.bytes i))) (omega arith) c.requires)
    (subst IsCutShort c.split_at.ensures.back (c.is_cut_short.ensures.0 c.if-is_cut_short.true))

pub returns-else-is_cut_short : goal.returns-else-is_cut_short
returns-else-is_cut_short c =
    at_unformed c.args.bytes.now c.args.left c.args.code
    (stuck c.args.bytes.now c.args.left c.args.code BadRecord
    (are_bytes c.args.bytes.now (λ i. omega (arith, c.type_inv.bytes i))) (omega arith)
    (rw c.in-BadRecord.is at c.requires))
    (λ short. let both : true ≡ false = sym (c.is_cut_short.ensures.1 (subst IsCutShort (sym c.split_at.ensures.back) short)) ∙ c.if-is_cut_short.false in absurd cc)

pub returns-then-is_miscounted : goal.returns-then-is_miscounted
returns-then-is_miscounted c =
    at_miscounted c.args.bytes.now c.args.left c.args.code NotInPlace
    (stuck c.args.bytes.now c.args.left c.args.code NotInPlace
    (are_bytes c.args.bytes.now (λ i. omega (arith, c.type_inv.bytes i))) (omega arith)
    (rw c.in-NotInPlace.is at c.requires)) (λ e. absurd cc)
    (counted c.points_wanted.ensures (c.length_of.ensures ∙ ap length_in c.split_at.ensures.back)
    (c.is_miscounted.ensures.0 c.if-is_miscounted.true))

pub returns-else-is_miscounted : goal.returns-else-is_miscounted
returns-else-is_miscounted c =
    at_misplaced c.args.bytes.now c.args.left c.args.code
    (stuck c.args.bytes.now c.args.left c.args.code NotInPlace
    (are_bytes c.args.bytes.now (λ i. omega (arith, c.type_inv.bytes i))) (omega arith)
    (rw c.in-NotInPlace.is at c.requires))
    (λ m. let both : true ≡ false = sym (c.is_miscounted.ensures.1 (counted (sym c.points_wanted.ensures) (sym (c.length_of.ensures ∙ ap length_in c.split_at.ensures.back)) m)) ∙ c.if-is_miscounted.false in absurd cc)

pub returns-then-is_miscounted-2 : goal.returns-then-is_miscounted-2
returns-then-is_miscounted-2 c =
    at_miscounted c.args.bytes.now c.args.left c.args.code (Unmet c.in-Unmet.demand)
    (stuck c.args.bytes.now c.args.left c.args.code (Unmet c.in-Unmet.demand)
    (are_bytes c.args.bytes.now (λ i. omega (arith, c.type_inv.bytes i))) (omega arith)
    (rw c.in-Unmet.is at c.requires)) (λ e. absurd cc)
    (counted c.points_wanted-in-Unmet.ensures (c.length_of-in-Unmet.ensures ∙ ap length_in c.split_at.ensures.back)
    (c.is_miscounted-in-Unmet.ensures.0 c.if-is_miscounted-2.true))

pub returns-else-is_miscounted-2 : goal.returns-else-is_miscounted-2
returns-else-is_miscounted-2 c =
    rw c.unmet_fault.ensures
    (at_unmet c.args.bytes.now c.args.left c.args.code c.in-Unmet.demand
    (stuck c.args.bytes.now c.args.left c.args.code (Unmet c.in-Unmet.demand)
    (are_bytes c.args.bytes.now (λ i. omega (arith, c.type_inv.bytes i))) (omega arith)
    (rw c.in-Unmet.is at c.requires))
    (λ m.
    let both : true ≡ false = sym (c.is_miscounted-in-Unmet.ensures.1
    (counted (sym c.points_wanted-in-Unmet.ensures)
    (sym (c.length_of-in-Unmet.ensures ∙ ap length_in c.split_at.ensures.back)) m)) ∙ c.if-is_miscounted-2.false in
    absurd cc))
