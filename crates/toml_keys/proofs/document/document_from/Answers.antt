use Rattle.std.proofs.Common.{◌≡◌, ◌∙◌, sym, ap, subst, Option, IfOk}
use Rattle.std.specs.Option.{option_map}
use Rattle.toml.specs.Data.{Members}
use Rattle.toml.specs.Parse.{parse_document}
use Rattle.toml.specs.View.{table_view}
use Rattle.toml_keys.proofs.DocumentLaws.{in_utf8}
use Rattle.toml_keys.proofs.document.document_from.Goals as goal

pub returns-in-Ok : goal.returns-in-Ok
returns-in-Ok c =
    let both = c.in-Ok.ensures.cases in
    subst (λ (t : Option Members). IfOk c.parsed.result (λ d. option_map table_view d ≡ t)) (ap parse_document both.0 ∙ sym (in_utf8 c.args.bytes.now both.1)) c.parsed.ensures
