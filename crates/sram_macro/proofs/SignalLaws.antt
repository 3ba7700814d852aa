-- The signal ports.
use Rattle.std.proofs.Common.{◌≡◌, ℕ, zero, suc, List, [], ◌∷◌, ◌++◌, map, length, refl, ap, sym, ◌∙◌, append_assoc}
use Rattle.std.specs.Prelude.{codes}
use Rattle.std.proofs.lemmas.List.{length-map}
use Rattle.sram_netlist.specs.Organization.{Organization, addr_bits, inputs_of}
use Rattle.sram_netlist.specs.Nets.{Net, Addr, Din, Dout, Wmask}
use Rattle.sram_netlist.specs.Names.{net_name, with_index}
use Rattle.sram_netlist.specs.InstanceList.{numbers_from, tabulate}
use Rattle.sram_netlist.specs.Netlist.{web_nets}
use Rattle.sram_deck.specs.Deck.{port_bits, web_ports}
use Rattle.macro_layout.specs.Pins.{port_nets}
use Rattle.sram_macro.specs.Signals.{signal_names}

-- names of nets that are listed by number
named : (plan : Organization) (f : ℕ → Net) (letters : List ℕ) → ((k : ℕ) → net_name plan (f k) ≡ with_index letters k) → (ks : List ℕ) → map (with_index letters) ks ≡ map (net_name plan) (map f ks)
named plan f letters same [] = refl
named plan f letters same (k ∷ ks) = λ i. (sym (same k)) i ∷ named plan f letters same ks i

then_named : (plan : Organization) (xs ys : List Net) → map (net_name plan) (xs ++ ys) ≡ map (net_name plan) xs ++ map (net_name plan) ys
then_named plan [] ys = refl
then_named plan (x ∷ xs) ys = ap (λ (l : List (List ℕ)). net_name plan x ∷ l) (then_named plan xs ys)

after_bits : (plan : Organization) (n : ℕ) (f : ℕ → Net) (letters : List ℕ) (more : List (List ℕ)) (nets : List Net) → ((k : ℕ) → net_name plan (f k) ≡ with_index letters k) → more ≡ map (net_name plan) nets → port_bits n letters ++ more ≡ map (net_name plan) (tabulate n f ++ nets)
after_bits plan n f letters more nets same are = (λ i. named plan f letters same (numbers_from 0 n) i ++ are i) ∙ sym (then_named plan (tabulate n f) nets)

-- web0 comes first, where something is written
after_web : (plan : Organization) (write_size : ℕ) (more : List (List ℕ)) (nets : List Net) → more ≡ map (net_name plan) nets → web_ports write_size ++ more ≡ map (net_name plan) (web_nets write_size ++ nets)
after_web plan zero more nets are = are
after_web plan (suc write_size) more nets are = ap (λ (l : List (List ℕ)). codes "web0" ∷ l) are

-- they are the names of the nets on the macro's signal ports
pub names_are : (plan : Organization) → signal_names plan ≡ map (net_name plan) (port_nets plan)
names_are plan =
    let data_out : port_bits plan.word_size (codes "dout0") ≡ map (net_name plan) (tabulate plan.word_size Dout) = named plan Dout (codes "dout0") (λ k. refl) (numbers_from 0 plan.word_size) in
    let data_in = after_bits plan (inputs_of plan) Din (codes "din0") _ _ (λ k. refl) data_out in
    let address = after_bits plan (addr_bits plan) Addr (codes "addr0") _ _ (λ k. refl) data_in in
    let masks = after_bits plan plan.masks Wmask (codes "wmask0") _ _ (λ k. refl) address in
    ap (λ (l : List (List ℕ)). codes "clk0" ∷ (codes "csb0" ∷ l)) (after_web plan plan.write_size _ _ masks)

pub names_count : (plan : Organization) → length (signal_names plan) ≡ length (port_nets plan)
names_count plan = ap length (names_are plan) ∙ length-map (port_nets plan) (net_name plan)

-- a label more
pub more_mapped : {A B : Type 0} (f : A → B) (made more : List B) (all rest others : List A) (x : A) (y : B) → made ++ map f rest ≡ map f all → rest ≡ x ∷ others → more ≡ made ++ y ∷ [] → y ≡ f x → more ++ map f others ≡ map f all
more_mapped f made more all rest others x y sofar front added is =
    (λ i. (added ∙ ap (λ z. made ++ z ∷ []) is) i ++ map f others) ∙ (append_assoc made (f x ∷ []) (map f others) ∙ (ap (λ l. made ++ map f l) (sym front) ∙ sofar))
