use Rattle.std.proofs.Common.{◌∙◌, ap, map, Some, sym}
use Rattle.std.specs.Str.{bytes_eq}
use Rattle.part_edges.proofs.PlaceLaws.{mapped_there, named_there}
use Rattle.part_edges.proofs.pins.is_port_at.Goals as goal

pub returns : goal.returns
returns c =
    let ports = c.args.ports.now in
    named_there c.eq.result (map (λ t. t.now) ports) c.args.place c.as_bytes.result.now c.args.pin.now (c.eq.ensures ∙ ap (bytes_eq c.as_bytes.result.now) c.as_bytes-2.ensures.value)
    (mapped_there (λ t. t.now) ports c.args.place _ c.requires ∙ ap Some (sym c.as_bytes.ensures.value))
