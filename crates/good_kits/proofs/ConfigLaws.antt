-- What holds of every configuration that bytes are.
use Rattle.std.proofs.Common.{◌≡◌, inl, ℕ, ◌%◌, ◌*◌, ◌+◌, ◌<◌, ◌≤◌, ℤ, pos, negsuc, ◌≤ℤ◌, ◌<ℤ◌, List, Bool, true, false, Option, None, Some, Ordering, Less, Equal, Greater, refl, subst, arith}
use Rattle.std.specs.Prelude.{Result, Ok, Err, ◌==◌, ◌||◌, if◌then◌else◌, IfSome, IsTrue, codes}
use Rattle.std.specs.List.{list_any}
use Rattle.std.specs.Option.{ok_or}
use Rattle.std.specs.Ordering.{MatchOrdering, int_cmp, is_lt}
use Rattle.std.specs.Cmp.{int_ranks}
use Rattle.std.proofs.lemmas.Bool.Decides.{Decides-eqb}
use Rattle.std.proofs.lemmas.Int.{ints}
use Rattle.std.proofs.lemmas.Nat.{mod-mul-add}
use Rattle.sram_netlist.specs.Membership.{IsOneOf}
use Rattle.toml.specs.Data.{Members, table}
use Rattle.toml_keys.specs.Document.{document}
use Rattle.toml_keys.specs.Fault.{◌>>=◌}
use Rattle.toml_keys.specs.Keys.{Section, whole, has_key, optional, in_range, kind_under, number_under, text_under, out_of_range}
use Rattle.toml_keys.specs.Unknown.{unknown_key}
use Rattle.sram_plan.specs.declared.config.Config.{Config}
use Rattle.sram_plan.specs.declared.fault.ConfigFault.{ConfigFault}
use Rattle.sram_plan.specs.declared.fault.ConfigFault.TheVariants.{NotToml}
use Rattle.sram_plan.specs.Fault.{config_faults}
use Rattle.sram_plan.specs.Config.{IsConfig, word_counts, row_counts, bank_counts, is_file_text, is_output_name}
use Rattle.sram_plan.specs.Configuration.{known_keys, counts_in, ports_in, names_in, config_in, config_or_unknown, config_of, configuration}
use Rattle.sram_plan.specs.Keys.{natural, natural_under, allowed, listed_under, listed_or, divisor_under, divisor_or_whole, file_text_under, output_name_under}
use Rattle.sram_plan.proofs.KeyLaws.{any_is_one}

-- steps

pub bind_ok : {E X Y : Type 0} (r : Result X E) (f : X → Result Y E) (y : Y) → (r >>= f) ≡ Ok y → (x : X) × (r ≡ Ok x) × (f x ≡ Ok y)
bind_ok (Ok x) f y e = (x, refl, e)
bind_ok (Err g) f y e = absurd cc

same_ok : {E X : Type 0} (x y : X) → ◌≡◌ {A = Result X E} (Ok x) (Ok y) → x ≡ y
same_ok x y e = cc

allowed_ok : {X : Type 0} (b : Bool) (x : X) (s : Section ConfigFault) (key : List ℕ) (y : X) → allowed b x s key ≡ Ok y → (b ≡ true) × (x ≡ y)
allowed_ok true x s key y e = (refl, same_ok {E = ConfigFault} x y e)
allowed_ok false x s key y e = absurd cc

-- numbers

not_less : (a b : ℤ) (o : Ordering) → MatchOrdering o (a <ℤ b) (a ≡ b) (b <ℤ a) → is_lt o ≡ false → b ≤ℤ a
not_less a b Less rank e = absurd cc
not_less a b Equal rank e = let same : a ≡ b = rank in omega (arith, ints, same)
not_less a b Greater rank e = let above : b <ℤ a = rank in omega (arith, ints, above)

both_false : (a b : Bool) → (a || b) ≡ false → (a ≡ false) × (b ≡ false)
both_false true b e = absurd cc
both_false false b e = (refl, e)

in_range_ok : {F : Type 0} (low high z y : ℤ) (fault : F) → ok_or (in_range low high z) fault ≡ Ok y → (low ≤ℤ y) × (y ≤ℤ high)
in_range_ok {F} low high z y fault e = by (is_lt (int_cmp z low) || is_lt (int_cmp high z)) refl e where
  by : (b : Bool) → (is_lt (int_cmp z low) || is_lt (int_cmp high z)) ≡ b → ◌≡◌ {A = Result ℤ F} (ok_or (if b then None else Some z) fault) (Ok y) → (low ≤ℤ y) × (y ≤ℤ high)
  by true t e = absurd cc
  by false t e =
      let parts = both_false (is_lt (int_cmp z low)) (is_lt (int_cmp high z)) t in
      let same : z ≡ y = same_ok {E = F} z y e in
      let from = not_less z low (int_cmp z low) (int_ranks z low) parts.0 in
      let to = not_less high z (int_cmp high z) (int_ranks high z) parts.1 in
      (omega (arith, ints, from, same), omega (arith, ints, to, same))

natural_is : (z : ℤ) (low high : ℕ) → pos low ≤ℤ z → z ≤ℤ pos high → (low ≤ natural z) × (natural z ≤ high)
natural_is (pos n) low high a b = (omega (arith, ints, a), omega (arith, ints, b))
natural_is (negsuc n) low high a b = absurd (omega (arith, ints, a))

natural_ok : (low high : ℕ) (s : Section ConfigFault) (key : List ℕ) (n : ℕ) → natural_under low high s key ≡ Ok n → (low ≤ n) × (n ≤ high)
natural_ok low high s key n e =
    let a = bind_ok (number_under (pos low) (pos high) s key) (λ z. Ok (natural z)) n e in
    let b = bind_ok (kind_under _ s key) (λ z. ok_or (in_range (pos low) (pos high) z) (out_of_range s key)) a.0 a.1 in
    let range = in_range_ok (pos low) (pos high) b.0 a.0 (out_of_range s key) b.2 in
    subst (λ (k : ℕ). (low ≤ k) × (k ≤ high)) (same_ok {E = ConfigFault} (natural a.0) n a.2) (natural_is a.0 low high range.0 range.1)

listed_ok : (values : List ℕ) (s : Section ConfigFault) (key : List ℕ) (n : ℕ) → listed_under values s key ≡ Ok n → IsOneOf n values
unfolding listed_under
listed_ok values s key n e =
    let a = bind_ok (natural_under 0 4294967295 s key) (λ m. allowed (list_any (λ v. v == m) values) m s key) n e in
    let b = allowed_ok (list_any (λ v. v == a.0) values) a.0 s key n a.2 in
    subst (λ (k : ℕ). IsOneOf k values) b.1 (any_is_one values a.0 b.0)

listed_or_ok : (absent : ℕ) (values : List ℕ) (s : Section ConfigFault) (key : List ℕ) (n : ℕ) → IsOneOf absent values → listed_or absent values s key ≡ Ok n → IsOneOf n values
listed_or_ok absent values s key n known e = by (has_key s key) e where
  by : (b : Bool) → (if b then listed_under values s key else Ok absent) ≡ Ok n → IsOneOf n values
  by true e = listed_ok values s key n e
  by false e = subst (λ (k : ℕ). IsOneOf k values) (same_ok {E = ConfigFault} absent n e) known

-- what may be there
optional_ok : {X : Type 0} (P : X → Type 0) (under : Section ConfigFault → List ℕ → Result X ConfigFault) (s : Section ConfigFault) (key : List ℕ) (o : Option X) → ((x : X) → under s key ≡ Ok x → P x) → optional under s key ≡ Ok o → IfSome o P
optional_ok {X} P under s key o each e = by (has_key s key) e where
  by : (b : Bool) → (if b then (under s key >>= λ x. Ok (Some x)) else Ok None) ≡ Ok o → IfSome o P
  by true e = let a = bind_ok (under s key) (λ x. Ok (Some x)) o e in subst (λ (p : Option X). IfSome p P) (same_ok {E = ConfigFault} (Some a.0) o a.2) (each a.0 a.1)
  by false e = subst (λ (p : Option X). IfSome p P) (same_ok {E = ConfigFault} None o e) tt

itself : (m : ℕ) → 0 < m → m % m ≡ 0
itself m some = subst (λ (n : ℕ). n % m ≡ 0) (once m) (mod-mul-add 1 m 0 some) where
  once : (m : ℕ) → 1 * m + 0 ≡ m
  once m = omega arith

divisor_ok : (word : ℕ) (s : Section ConfigFault) (key : List ℕ) (n : ℕ) → 0 < word → divisor_or_whole word s key ≡ Ok n → (0 < n) × (n ≤ word) × (word % n ≡ 0)
unfolding divisor_under
divisor_ok word s key n some e = by (has_key s key) e where
  by : (b : Bool) → (if b then divisor_under word s key else Ok word) ≡ Ok n → (0 < n) × (n ≤ word) × (word % n ≡ 0)
  by true e =
      let a = bind_ok (natural_under 1 word s key) (λ m. allowed (word % m == 0) m s key) n e in
      let b = allowed_ok (word % a.0 == 0) a.0 s key n a.2 in
      let range = natural_ok 1 word s key a.0 a.1 in
      subst (λ (k : ℕ). (0 < k) × (k ≤ word) × (word % k ≡ 0)) b.1 ((let from = range.0 in omega (arith, from)), range.1, (Decides-eqb (word % a.0) 0).0 b.0)
  by false e = subst (λ (k : ℕ). (0 < k) × (k ≤ word) × (word % k ≡ 0)) (same_ok {E = ConfigFault} word n e) (some, omega arith, itself word some)

-- texts

true_is : (b : Bool) → b ≡ true → IsTrue b
true_is b e = e

file_text_ok : (s : Section ConfigFault) (key text : List ℕ) → file_text_under s key ≡ Ok text → IsTrue (is_file_text text)
unfolding file_text_under
file_text_ok s key text e =
    let a = bind_ok (text_under s key) (λ t. allowed (is_file_text t) t s key) text e in
    let b = allowed_ok (is_file_text a.0) a.0 s key text a.2 in
    subst (λ (t : List ℕ). IsTrue (is_file_text t)) b.1 (true_is (is_file_text a.0) b.0)

output_name_ok : (s : Section ConfigFault) (key text : List ℕ) → output_name_under s key ≡ Ok text → IsTrue (is_output_name text)
unfolding output_name_under
output_name_ok s key text e =
    let a = bind_ok (text_under s key) (λ t. allowed (is_output_name t) t s key) text e in
    let b = allowed_ok (is_output_name a.0) a.0 s key text a.2 in
    subst (λ (t : List ℕ). IsTrue (is_output_name t)) b.1 (true_is (is_output_name a.0) b.0)

-- a configuration

positive : (n : ℕ) → 1 ≤ n → 0 < n
positive n from = omega (arith, from)

record AreCounts (word words : ℕ) (row : Option ℕ) (banks : ℕ) : Type 0 where
  bits : (1 ≤ word) × (word ≤ 64)
  lines : IsOneOf words word_counts
  side : IfSome row (λ w. IsOneOf w row_counts)
  parts : IsOneOf banks bank_counts

counts_ok : {X : Type 0} (s : Section ConfigFault) (x : X) (P : X → Type 0) (make : ℕ → ℕ → Option ℕ → ℕ → X) → ((a b : ℕ) (c : Option ℕ) (d : ℕ) → AreCounts a b c d → P (make a b c d))
    → (natural_under 1 64 s (codes "word_size") >>= λ a. listed_under word_counts s (codes "num_words") >>= λ b. optional (listed_under row_counts) s (codes "words_per_row") >>= λ c. listed_or 1 bank_counts s (codes "num_banks") >>= λ d. Ok (make a b c d)) ≡ Ok x
    → P x
counts_ok {X} s x P make each e =
    let word = bind_ok (natural_under 1 64 s (codes "word_size")) (λ a. listed_under word_counts s (codes "num_words") >>= λ b. optional (listed_under row_counts) s (codes "words_per_row") >>= λ c. listed_or 1 bank_counts s (codes "num_banks") >>= λ d. Ok (make a b c d)) x e in
    words word.0 word.1 word.2
  where
    banks : (a b : ℕ) (c : Option ℕ) (d : ℕ) → AreCounts a b c d → ◌≡◌ {A = Result X ConfigFault} (Ok (make a b c d)) (Ok x) → P x
    banks a b c d are e = subst P (same_ok {E = ConfigFault} (make a b c d) x e) (each a b c d are)

    rows : (a b : ℕ) (c : Option ℕ) → natural_under 1 64 s (codes "word_size") ≡ Ok a → listed_under word_counts s (codes "num_words") ≡ Ok b → optional (listed_under row_counts) s (codes "words_per_row") ≡ Ok c → (listed_or 1 bank_counts s (codes "num_banks") >>= λ d. Ok (make a b c d)) ≡ Ok x → P x
    rows a b c word words row e =
        let r = bind_ok (listed_or 1 bank_counts s (codes "num_banks")) (λ d. Ok (make a b c d)) x e in
        banks a b c r.0 (record {
          bits = natural_ok 1 64 s (codes "word_size") a word;
          lines = listed_ok word_counts s (codes "num_words") b words;
          side = optional_ok (λ w. IsOneOf w row_counts) (listed_under row_counts) s (codes "words_per_row") c (λ w is. listed_ok row_counts s (codes "words_per_row") w is) row;
          parts = listed_or_ok 1 bank_counts s (codes "num_banks") r.0 (inl refl) r.1;
        }) r.2

    words : (a : ℕ) → natural_under 1 64 s (codes "word_size") ≡ Ok a → (listed_under word_counts s (codes "num_words") >>= λ b. optional (listed_under row_counts) s (codes "words_per_row") >>= λ c. listed_or 1 bank_counts s (codes "num_banks") >>= λ d. Ok (make a b c d)) ≡ Ok x → P x
    words a word e =
        let w = bind_ok (listed_under word_counts s (codes "num_words")) (λ b. optional (listed_under row_counts) s (codes "words_per_row") >>= λ c. listed_or 1 bank_counts s (codes "num_banks") >>= λ d. Ok (make a b c d)) x e in
        let r = bind_ok (optional (listed_under row_counts) s (codes "words_per_row")) (λ c. listed_or 1 bank_counts s (codes "num_banks") >>= λ d. Ok (make a w.0 c d)) x w.2 in
        rows a w.0 r.0 word w.1 r.1 r.2

record AreNames (tech : List ℕ) (path : Option (List ℕ)) (name : List ℕ) : Type 0 where
  kit : IsTrue (is_file_text tech)
  out : IfSome path (λ p. IsTrue (is_file_text p))
  called : IsTrue (is_output_name name)

names_ok : {X : Type 0} (s : Section ConfigFault) (x : X) (P : X → Type 0) (make : List ℕ → Option (List ℕ) → List ℕ → X) → ((a : List ℕ) (b : Option (List ℕ)) (c : List ℕ) → AreNames a b c → P (make a b c))
    → (file_text_under s (codes "tech_name") >>= λ a. optional file_text_under s (codes "output_path") >>= λ b. output_name_under s (codes "output_name") >>= λ c. Ok (make a b c)) ≡ Ok x → P x
names_ok {X} s x P make each e =
    let t = bind_ok (file_text_under s (codes "tech_name")) (λ a. optional file_text_under s (codes "output_path") >>= λ b. output_name_under s (codes "output_name") >>= λ c. Ok (make a b c)) x e in
    paths t.0 t.1 t.2
  where
    paths : (a : List ℕ) → file_text_under s (codes "tech_name") ≡ Ok a → (optional file_text_under s (codes "output_path") >>= λ b. output_name_under s (codes "output_name") >>= λ c. Ok (make a b c)) ≡ Ok x → P x
    paths a tech e =
        let p = bind_ok (optional file_text_under s (codes "output_path")) (λ b. output_name_under s (codes "output_name") >>= λ c. Ok (make a b c)) x e in
        let n = bind_ok (output_name_under s (codes "output_name")) (λ c. Ok (make a p.0 c)) x p.2 in
        subst P (same_ok {E = ConfigFault} (make a p.0 n.0) x n.2) (each a p.0 n.0 (record {
          kit = file_text_ok s (codes "tech_name") a tech;
          out = optional_ok (λ t. IsTrue (is_file_text t)) file_text_under s (codes "output_path") p.0 (λ t is. file_text_ok s (codes "output_path") t is) p.1;
          called = output_name_ok s (codes "output_name") n.0 n.1;
        }))

made_of : (s : Section ConfigFault) (word words : ℕ) (row : Option ℕ) (banks write : ℕ) (tech : List ℕ) (path : Option (List ℕ)) (name : List ℕ) → AreCounts word words row banks → AreNames tech path name → divisor_or_whole word s (codes "write_size") ≡ Ok write
    → IsConfig (record { word_size = word; num_words = words; words_per_row = row; num_banks = banks; write_size = write; tech_name = tech; output_path = path; output_name = name })
made_of s word words row banks write tech path name counts names divides =
    let d = divisor_ok word s (codes "write_size") write (positive word counts.bits.0) divides in
    record {
      some_bits = positive word counts.bits.0;
      few_bits = counts.bits.1;
      words = counts.lines;
      words_per_row = counts.side;
      banks = counts.parts;
      some_written = d.0;
      few_written = d.1;
      written = d.2;
      tech_name = names.kit;
      output_path = names.out;
      output_name = names.called;
    }

config_ok : (s : Section ConfigFault) (config : Config) → config_in s ≡ Ok config → IsConfig config
unfolding config_in counts_in names_in
config_ok s config e =
    let counts = bind_ok (counts_in s) _ config e in
    let ports = bind_ok (ports_in s) _ config counts.2 in
    let write = bind_ok (divisor_or_whole counts.0.word_size s (codes "write_size")) _ config ports.2 in
    let names = bind_ok (names_in s) _ config write.2 in
    let are = counts_ok s counts.0 (λ x. AreCounts x.word_size x.num_words x.words_per_row x.num_banks) (λ a b c d. record { word_size = a; num_words = b; words_per_row = c; num_banks = d }) (λ a b c d is. is) counts.1 in
    let named = names_ok s names.0 (λ x. AreNames x.tech_name x.output_path x.output_name) (λ a b c. record { tech_name = a; output_path = b; output_name = c }) (λ a b c is. is) names.1 in
    subst IsConfig (same_ok {E = ConfigFault} _ config names.2) (made_of s counts.0.word_size counts.0.num_words counts.0.words_per_row counts.0.num_banks write.0 names.0.tech_name names.0.output_path names.0.output_name are named write.1)

unknown_ok : (o : Option (List ℕ)) (s : Section ConfigFault) (config : Config) → config_or_unknown o s ≡ Ok config → config_in s ≡ Ok config
unknown_ok None s config e = e
unknown_ok (Some key) s config e = absurd cc

pub config_is_good : (bytes : List ℕ) (config : Config) → configuration bytes ≡ Ok config → IsConfig config
config_is_good bytes config e =
    let read = bind_ok (ok_or (document bytes) NotToml) (λ ms. config_of (whole config_faults (table ms))) config e in
    told read.0 read.2
  where
    told : (ms : Members) → config_of (whole config_faults (table ms)) ≡ Ok config → IsConfig config
    told ms e = config_ok (whole config_faults (table ms)) config (unknown_ok (unknown_key known_keys (whole config_faults (table ms))) (whole config_faults (table ms)) config e)
