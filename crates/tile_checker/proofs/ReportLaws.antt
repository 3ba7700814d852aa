-- The minimums of rules.
use Rattle.std.proofs.Common.{◌≡◌, ℕ, ◌<◌, List, length, get_or, sym, subst}
use Rattle.std.specs.Prelude.{All}
use Rattle.tech_rules.specs.declared.tech.Rule.{Rule}
use Rattle.tech_rules.specs.declared.tech.Rule.TheVariants.{Width, Space, Enclose}
use Rattle.tech_rules.specs.declared.tech.Layer.{Layer}
use Rattle.tech_rules.specs.Facts.{IsRule}
use Rattle.std.proofs.lemmas.List.Elements.{All-contains}
use Rattle.tile_checker.specs.Minimum.{HasMinimum}

pub has_minimum : (layers : List Layer) (rule : Rule) → IsRule layers rule → HasMinimum rule
has_minimum layers (Width layer min) is = record { positive = is.min.from; bounded = is.min.to }
has_minimum layers (Space layer other min) is = record { positive = is.min.from; bounded = is.min.to }
has_minimum layers (Enclose layer by min) is = record { positive = is.min.from; bounded = is.min.to }

pub minimums : (layers : List Layer) (rules seen : List Rule) → seen ≡ rules → All (IsRule layers) rules → All HasMinimum seen
minimums layers rules seen is all = subst (λ (rs : List Rule). All HasMinimum rs) (sym is) (λ k d lt. has_minimum layers _ (all k d lt))

pub minimum_at : (rules : List Rule) (i : ℕ) (rule : Rule) → All HasMinimum rules → i < length rules → rule ≡ get_or rules i rule → HasMinimum rule
minimum_at rules i rule all lt is = All-contains HasMinimum rules rule all (i, lt, sym is)
