-- The answers of the three memories.
use Rattle.std.proofs.Common.{[], ◌∷◌, refl, ◌∙◌, arith, inl, inr}
use Rattle.sram_netlist.specs.Organization.{IsBuildable}
use Rattle.memory_laws.specs.Examples.{plain_memory, masked_memory, banked_memory, put, get, ExamplesAnswer}
use Rattle.memory_laws.proofs.NumberArrayLaws.{runs_answer_numbers}

plain_stands : IsBuildable plain_memory
plain_stands = record { words = omega arith; rows = omega arith; columns = omega arith; banks = omega arith; choices = omega arith; sizes = (inl refl, (inl refl, tt)); groups = inl refl; masks = inl refl }

masked_stands : IsBuildable masked_memory
masked_stands = record { words = omega arith; rows = omega arith; columns = omega arith; banks = omega arith; choices = omega arith; sizes = (inl refl, (inl refl, tt)); groups = inl refl; masks = inr (omega arith, refl) }

banked_stands : IsBuildable banked_memory
banked_stands = record { words = omega arith; rows = omega arith; columns = omega arith; banks = omega arith; choices = omega arith; sizes = (inl refl, (inl refl, tt)); groups = inl refl; masks = inl refl }

pub examples_answer : ExamplesAnswer
examples_answer = record {
  plain_stands = plain_stands;
  masked_stands = masked_stands;
  banked_stands = banked_stands;
  plain_answers = λ s vs end start five thirty run.
      (runs_answer_numbers plain_memory s (get 5 ∷ put 1 31 0 ∷ get 31 ∷ get 30 ∷ []) vs end plain_stands (omega arith) start (omega arith, (omega arith, (omega arith, (omega arith, tt)))) run).0
      ∙ (λ k. five k ∷ (1 ∷ (thirty k ∷ [])));
  masked_answers = λ s vs end start run. (runs_answer_numbers masked_memory s (put 15 3 3 ∷ put 0 3 1 ∷ get 3 ∷ []) vs end masked_stands (omega arith) start (omega arith, (omega arith, (omega arith, tt))) run).0;
  unmasked_answers = λ s vs end start run. (runs_answer_numbers masked_memory s (put 15 3 3 ∷ put 0 3 0 ∷ get 3 ∷ []) vs end masked_stands (omega arith) start (omega arith, (omega arith, (omega arith, tt))) run).0;
  banked_answers = λ s vs end start run. (runs_answer_numbers banked_memory s (put 1 3 0 ∷ put 2 19 0 ∷ get 3 ∷ get 19 ∷ []) vs end banked_stands (omega arith) start (omega arith, (omega arith, (omega arith, (omega arith, tt)))) run).0;
}
