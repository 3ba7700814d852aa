-- Instances and lines, one after the other.
use Rattle.std.proofs.Common.{◌≡◌, ℕ, List, [], ◌∷◌, ◌++◌, map, Bool, true, false, cond, not, Ok, Err, refl, sym, ap, ◌∙◌}
use Rattle.spice_text.specs.declared.fault.SpiceFault.TheVariants as fault
use Rattle.netlist.specs.declared.deck.Instance.{Instance}
use Rattle.spice_text.specs.Words.{is_among, but_last, last_word}
use Rattle.spice_text.specs.Subcircuits.{BegunSubckt, own_name, instance_added, with_instance, instance_of}

but_last_is : (n : List ℕ) (nodes : List (List ℕ)) (last : List ℕ) → but_last (n ∷ (nodes ++ last ∷ [])) ≡ n ∷ nodes
but_last_is n [] last = refl
but_last_is n (m ∷ nodes) last = ap (λ (ws : List (List ℕ)). n ∷ ws) (but_last_is m nodes last)

last_is : (n : List ℕ) (nodes : List (List ℕ)) (last : List ℕ) → last_word n (nodes ++ last ∷ []) ≡ last
last_is n [] last = refl
last_is n (m ∷ nodes) last = last_is m nodes last

abbrev pub made : List ℕ → List (List ℕ) → List ℕ → Instance
made name nodes last = record { name = name; nodes = nodes; of = last }

pub new_placed : (o : BegunSubckt) (line : ℕ) (name : List ℕ) (nodes : List (List ℕ)) (last : List ℕ) → is_among name (map own_name o.subckt.instances) ≡ false → instance_added o line (name ∷ (nodes ++ last ∷ [])) ≡ Ok (with_instance o (made name nodes last))
new_placed o line name [] last new = ap (λ b. cond b (Err (fault.Duplicate line)) (Ok (with_instance o (made name [] last)))) new
new_placed o line name (n ∷ nodes) last new =
    ap (λ b. cond b (Err (fault.Duplicate line)) (Ok (with_instance o (instance_of name n (nodes ++ last ∷ []))))) new ∙ (λ i. Ok (with_instance o (made name (but_last_is n nodes last i) (last_is n nodes last i))))

-- an instance with a new name
pub placed_new : (o : BegunSubckt) (line : ℕ) (words : List (List ℕ)) (name : List ℕ) (nodes : List (List ℕ)) (last : List ℕ) → words ≡ name ∷ (nodes ++ last ∷ []) → is_among name (map own_name o.subckt.instances) ≡ false
    → instance_added o line words ≡ Ok (with_instance o (made name nodes last))
placed_new o line words name nodes last is new = ap (instance_added o line) is ∙ new_placed o line name nodes last new

-- what an answer says of the test that it denies
pub was_new : (answer test : Bool) → answer ≡ not test → answer ≡ true → test ≡ false
was_new answer true is told = let both : true ≡ false = sym told ∙ is in absurd cc
was_new answer false is told = refl
