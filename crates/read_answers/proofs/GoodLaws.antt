-- A configuration that bytes are is a good one.
use Rattle.std.proofs.Common.{◌≡◌, inl, ℕ, ℤ, pos, negsuc, ◌≤◌, ◌%◌, List, Bool, true, false, cond, Option, Some, None}
use Rattle.std.proofs.Common.{Result, Ok, refl, ap, subst, arith}
use Rattle.std.specs.Prelude.{◌==◌, codes, IfSome, IsTrue}
use Rattle.std.specs.List.{list_any}
use Rattle.std.specs.Option.{ok_or}
use Rattle.std.proofs.Math.Nat.{mod_self}
use Rattle.std.proofs.lemmas.Bool.{eqb-true}
use Rattle.std.proofs.lemmas.Int.{ints}
use Rattle.toml.specs.Data.{table}
use Rattle.toml_keys.specs.Document.{document}
use Rattle.toml_keys.specs.Fault.{◌>>=◌}
use Rattle.toml_keys.specs.Keys.{IsInRange, Section, has_key, number_under, optional, out_of_range, text_under, whole}
use Rattle.toml_keys.specs.Unknown.{unknown_key}
use Rattle.toml_keys.proofs.StepLaws.{met_by, number_under-IsInRange, steps_of}
use Rattle.sram_netlist.specs.Membership.{IsOneOf}
use Rattle.sram_plan.specs.declared.config.Config.{Config}
use Rattle.sram_plan.specs.declared.fault.ConfigFault.{ConfigFault}
use Rattle.sram_plan.specs.declared.fault.ConfigFault.TheVariants.{NotToml}
use Rattle.sram_plan.specs.Config.{IsConfig, bank_counts, is_file_text, is_output_name, row_counts, word_counts}
use Rattle.sram_plan.specs.Configuration.{config_in, config_of, config_or_unknown, counts_in, known_keys, names_in, ports_in}
use Rattle.sram_plan.specs.Fault.{config_faults}
use Rattle.sram_plan.specs.Keys.{divisor_or_whole, divisor_under, file_text_under, listed_or, listed_under, natural, natural_under, output_name_under}
use Rattle.sram_plan.proofs.KeyLaws.{any_is_one}
use Rattle.read_answers.specs.ReadAnswers.{ConfigurationsAreGood}

-- a number from low to high
pub record Between (low high n : ℕ) : Type 0 where
  pub from : low ≤ n
  pub to : n ≤ high

between : (low high n : ℕ) (z : ℤ) → natural z ≡ n → IsInRange (pos low) (pos high) z → Between low high n
between low high n (pos k) same within =
    let from = within.from in
    let to = within.to in
    let low_k : low ≤ k = omega (arith, ints, from) in
    let k_high : k ≤ high = omega (arith, ints, to) in
    record { from = subst (λ (m : ℕ). low ≤ m) same low_k; to = subst (λ (m : ℕ). m ≤ high) same k_high }
between low high n (negsuc k) same within = let from = within.from in absurd (omega (arith, ints, from))

-- what is made of the same is the same in each part
same_part : {X Y F : Type 0} (y : X) (part : X → Y) (x : X) → ◌≡◌ {A = Result X F} (Ok x) (Ok y) → part x ≡ part y
same_part {X} y part x e = let same : x ≡ y = cc in ap part same

module _ (s : Section ConfigFault) where
  natural_is : (low high : ℕ) (key : List ℕ) (n : ℕ) → natural_under low high s key ≡ Ok n → Between low high n
  natural_is low high key n made =
      let step = steps_of (number_under (pos low) (pos high) s key) (λ z. Ok (natural z)) n made in
      let same : natural step.x ≡ n = ok_same (natural step.x) n step.next in
      between low high n step.x same (number_under-IsInRange (pos low) (pos high) s key step.x step.first)
    where
      ok_same : (a b : ℕ) → ◌≡◌ {A = Result ℕ ConfigFault} (Ok a) (Ok b) → a ≡ b
      ok_same a b e = cc

  listed_is : (values : List ℕ) (key : List ℕ) (n : ℕ) → listed_under values s key ≡ Ok n → IsOneOf n values
  unfolding listed_under
  listed_is values key n made =
      let step = steps_of (natural_under 0 4294967295 s key) _ n made in
      let met = met_by (list_any (λ v. v == step.x) values) step.x n (out_of_range s key) step.next in
      subst (λ (m : ℕ). IsOneOf m values) met.same (any_is_one values step.x met.holds)

  either_listed : (absent : ℕ) (values : List ℕ) (test : Bool) (given : Result ℕ ConfigFault) (n : ℕ) → IsOneOf absent values
      → (given ≡ Ok n → IsOneOf n values)
      → cond test given (Ok absent) ≡ Ok n → IsOneOf n values
  either_listed absent values true given n among is made = is made
  either_listed absent values false given n among is made = let same : absent ≡ n = cc in subst (λ (m : ℕ). IsOneOf m values) same among

  listed_or_is : (absent : ℕ) (values : List ℕ) (key : List ℕ) (n : ℕ) → IsOneOf absent values → listed_or absent values s key ≡ Ok n
      → IsOneOf n values
  listed_or_is absent values key n among made =
      either_listed absent values (has_key s key) (listed_under values s key) n among (listed_is values key n) made

  -- what a key gives, where it is there, has P
  if_given : {X : Type 0} (P : X → Type 0) (under : Section ConfigFault → List ℕ → Result X ConfigFault) (key : List ℕ)
      (test : Bool) (found : Option X)
      → ((x : X) → under s key ≡ Ok x → P x) → cond test (under s key >>= λ x. Ok (Some x)) (Ok None) ≡ Ok found → IfSome found P
  if_given {X} P under key false found each made = let same : ◌≡◌ {A = Option X} None found = cc in subst (λ (o : Option X). IfSome o P) same tt
  if_given {X} P under key true found each made =
      let step = steps_of (under s key) (λ x. Ok (Some x)) found made in
      let same : ◌≡◌ {A = Option X} (Some step.x) found = ok_some (Some step.x) found step.next in
      subst (λ (o : Option X). IfSome o P) same (each step.x step.first)
    where
      ok_some : (a b : Option X) → ◌≡◌ {A = Result (Option X) ConfigFault} (Ok a) (Ok b) → a ≡ b
      ok_some a b e = cc

  file_text_is : (key text : List ℕ) → file_text_under s key ≡ Ok text → IsTrue (is_file_text text)
  unfolding file_text_under
  file_text_is key text made =
      let step = steps_of (text_under s key) _ text made in
      let met = met_by (is_file_text step.x) step.x text (out_of_range s key) step.next in
      subst (λ (t : List ℕ). IsTrue (is_file_text t)) met.same met.holds

  output_name_is : (key text : List ℕ) → output_name_under s key ≡ Ok text → IsTrue (is_output_name text)
  unfolding output_name_under
  output_name_is key text made =
      let step = steps_of (text_under s key) _ text made in
      let met = met_by (is_output_name step.x) step.x text (out_of_range s key) step.next in
      subst (λ (t : List ℕ). IsTrue (is_output_name t)) met.same met.holds

  -- a divisor, or the whole where the key isn't there
  pub record Divides (all n : ℕ) : Type 0 where
    pub within : Between 1 all n
    pub even : all % n ≡ 0

  divisor_is : (all : ℕ) (key : List ℕ) (n : ℕ) → divisor_under all s key ≡ Ok n → Divides all n
  unfolding divisor_under
  divisor_is all key n made =
      let step = steps_of (natural_under 1 all s key) _ n made in
      let met = met_by (all % step.x == 0) step.x n (out_of_range s key) step.next in
      subst (Divides all) met.same (record { within = natural_is 1 all key step.x step.first; even = eqb-true (all % step.x) 0 met.holds })

  either_divides : (all : ℕ) (test : Bool) (given : Result ℕ ConfigFault) (n : ℕ) → 1 ≤ all → (given ≡ Ok n → Divides all n)
      → cond test given (Ok all) ≡ Ok n → Divides all n
  either_divides all true given n some is made = is made
  either_divides all false given n some is made =
      let same : all ≡ n = cc in subst (Divides all) same (record { within = record { from = some; to = omega arith }; even = mod_self all })

  divisor_or_is : (all : ℕ) (key : List ℕ) (n : ℕ) → 1 ≤ all → divisor_or_whole all s key ≡ Ok n → Divides all n
  divisor_or_is all key n some made = either_divides all (has_key s key) (divisor_under all s key) n some (divisor_is all key n) made

  config_is : (config : Config) → config_in s ≡ Ok config → IsConfig config
  unfolding config_in counts_in names_in
  config_is config made =
      let a = steps_of (counts_in s) _ config made in
      let b = steps_of (ports_in s) _ config a.next in
      let c = steps_of (divisor_or_whole a.x.word_size s (codes "write_size")) _ config b.next in
      let d = steps_of (names_in s) _ config c.next in
      let counts = a.x in
      let names = d.x in
      let size = steps_of (natural_under 1 64 s (codes "word_size")) _ counts a.first in
      let words = steps_of (listed_under word_counts s (codes "num_words")) _ counts size.next in
      let rows = steps_of (optional (listed_under row_counts) s (codes "words_per_row")) _ counts words.next in
      let banks = steps_of (listed_or 1 bank_counts s (codes "num_banks")) _ counts rows.next in
      let tech = steps_of (file_text_under s (codes "tech_name")) _ names d.first in
      let path = steps_of (optional file_text_under s (codes "output_path")) _ names tech.next in
      let name = steps_of (output_name_under s (codes "output_name")) _ names path.next in
      let size_is : size.x ≡ counts.word_size = same_part counts (λ t. t.word_size) _ banks.next in
      let words_is : words.x ≡ counts.num_words = same_part counts (λ t. t.num_words) _ banks.next in
      let rows_is : rows.x ≡ counts.words_per_row = same_part counts (λ t. t.words_per_row) _ banks.next in
      let banks_is : banks.x ≡ counts.num_banks = same_part counts (λ t. t.num_banks) _ banks.next in
      let tech_is : tech.x ≡ names.tech_name = same_part names (λ t. t.tech_name) _ name.next in
      let path_is : path.x ≡ names.output_path = same_part names (λ t. t.output_path) _ name.next in
      let name_is : name.x ≡ names.output_name = same_part names (λ t. t.output_name) _ name.next in
      let sized = subst (Between 1 64) size_is (natural_is 1 64 (codes "word_size") size.x size.first) in
      let divides = divisor_or_is counts.word_size (codes "write_size") c.x sized.from c.first in
      let some_bits = sized.from in
      let some_written = divides.within.from in
      let given : Config = record {
        word_size = counts.word_size;
        num_words = counts.num_words;
        words_per_row = counts.words_per_row;
        num_banks = counts.num_banks;
        write_size = c.x;
        tech_name = names.tech_name;
        output_path = names.output_path;
        output_name = names.output_name;
      } in
      let good : IsConfig given = record {
        some_bits = omega (arith, some_bits);
        few_bits = sized.to;
        words = subst (λ (n : ℕ). IsOneOf n word_counts) words_is (listed_is word_counts (codes "num_words") words.x words.first);
        words_per_row = subst (λ (o : Option ℕ). IfSome o (λ w. IsOneOf w row_counts)) rows_is
            (if_given (λ (w : ℕ). IsOneOf w row_counts) (listed_under row_counts) (codes "words_per_row") (has_key s (codes "words_per_row")) rows.x
            (listed_is row_counts (codes "words_per_row")) rows.first);
        banks = subst (λ (n : ℕ). IsOneOf n bank_counts) banks_is (listed_or_is 1 bank_counts (codes "num_banks") banks.x (inl refl) banks.first);
        some_written = omega (arith, some_written);
        few_written = divides.within.to;
        written = divides.even;
        tech_name = subst (λ (t : List ℕ). IsTrue (is_file_text t)) tech_is (file_text_is (codes "tech_name") tech.x tech.first);
        output_path = subst (λ (o : Option (List ℕ)). IfSome o (λ t. IsTrue (is_file_text t))) path_is
            (if_given (λ (t : List ℕ). IsTrue (is_file_text t)) file_text_under (codes "output_path") (has_key s (codes "output_path")) path.x
            (file_text_is (codes "output_path")) path.first);
        output_name = subst (λ (t : List ℕ). IsTrue (is_output_name t)) name_is (output_name_is (codes "output_name") name.x name.first);
      } in
      subst IsConfig (same_part config (λ (t : Config). t) given d.next) good

  known_is : (unknown : Option (List ℕ)) (config : Config) → config_or_unknown unknown s ≡ Ok config → IsConfig config
  known_is None config made = config_is config made
  known_is (Some key) config made = absurd (cc)

pub configurations_are_good : ConfigurationsAreGood
configurations_are_good bytes config made =
    let step = steps_of (ok_or (document bytes) NotToml) (λ ms. config_of (whole config_faults (table ms))) config made in
    let s = whole config_faults (table step.x) in
    known_is s (unknown_key known_keys s) config step.next
