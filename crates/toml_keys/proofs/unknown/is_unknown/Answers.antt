use Rattle.std.proofs.Common.{not, ap, sym, ◌∙◌}
use Rattle.std.specs.Str.{bytes_eq}
use Rattle.toml_keys.proofs.UnknownLaws.{any_mapped}
use Rattle.toml_keys.proofs.unknown.is_unknown.Goals as goal

pub returns : goal.returns
returns c = ap not (c.is_among.ensures ∙ sym (any_mapped (λ k. k.now) (λ k. bytes_eq k c.args.key.now) c.args.known.now))
