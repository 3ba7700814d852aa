-- Subcircuits of equal parts are one.
use Rattle.std.proofs.Common.{◌≡◌, ℕ, List, [], ◌++◌, ◌∷◌, ap, ◌∙◌, append_assoc}
use Rattle.netlist.specs.declared.deck.Instance.{Instance}
use Rattle.netlist.specs.declared.deck.Subckt.{Subckt}
use Rattle.sram_deck.specs.Deck.{made_subckt}

pub made_same : (s : Subckt) (name named : List ℕ) (ports stated : List (List ℕ)) (instances listed : List Instance)
    → s ≡ made_subckt name ports instances → name ≡ named → ports ≡ stated → instances ≡ listed → s ≡ made_subckt named stated listed
made_same s name named ports stated instances listed is same_name same_ports same_instances = is ∙ (λ i. made_subckt (same_name i) (same_ports i) (same_instances i))

-- what was added to an empty list is the list
pub from_none : {A : Type 0} (none now added : List A) → now ≡ none ++ added → none ≡ [] → now ≡ added
from_none {A = A} none now added is empty = is ∙ ap (λ (l : List A). l ++ added) empty

-- two instances, and then others
pub from_two : (none one two all added : List Instance) (a first b second : Instance) → none ≡ [] → one ≡ none ++ a ∷ [] → two ≡ one ++ b ∷ [] → all ≡ two ++ added → a ≡ first → b ≡ second
    → all ≡ first ∷ (second ∷ added)
from_two none one two all added a first b second empty push_one push_two more is_first is_second =
    more ∙ (ap (λ (l : List Instance). l ++ added) (push_two ∙ ap (λ (l : List Instance). l ++ b ∷ []) (push_one ∙ ap (λ (l : List Instance). l ++ a ∷ []) empty))
    ∙ (λ i. is_first i ∷ (is_second i ∷ added)))

-- three lists
pub from_lists : {A : Type 0} (none one two all first second third : List A) → none ≡ [] → one ≡ none ++ first → two ≡ one ++ second → all ≡ two ++ third → all ≡ first ++ (second ++ third)
from_lists {A = A} none one two all first second third empty add_first add_second add_third =
    add_third ∙ (ap (λ (l : List A). l ++ third) (add_second ∙ ap (λ (l : List A). l ++ second) (from_none none one first add_first empty)) ∙ append_assoc first second third)

-- three instances
pub from_three : (none one two all : List Instance) (a b c first second third : Instance) → none ≡ [] → one ≡ none ++ a ∷ [] → two ≡ one ++ b ∷ [] → all ≡ two ++ c ∷ []
    → a ≡ first → b ≡ second → c ≡ third → all ≡ first ∷ (second ∷ (third ∷ []))
from_three none one two all a b c first second third empty push_one push_two push_three is_first is_second is_third =
    from_lists none one two all (a ∷ []) (b ∷ []) (c ∷ []) empty push_one push_two push_three ∙ (λ i. is_first i ∷ (is_second i ∷ (is_third i ∷ [])))
