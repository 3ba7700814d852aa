use Rattle.std.proofs.Common.{◌≡◌, ◌∙◌, rules, false, map, not, Ok, sym, ap}
use Rattle.spice_text.specs.Words.{is_among}
use Rattle.spice_text.specs.Subcircuits.{own_name}
use Rattle.spice_text.specs.ReaderViews.{begun_of}
use Rattle.spice_text.proofs.DeckLaws.{placed_new, was_new}
use Rattle.spice_text.proofs.reading.add_instance.Goals as goal

pub returns-clause-added : goal.returns-clause-added
returns-clause-added c =
    let o = begun_of c.args.current.now in
    let made = c.in-Some.instance in
    let other : is_among made.name c.args.current.now.instances ≡ false =
    was_new c.in_ok-add.field-0 _ (c.in_ok-add.ensures.new ∙ ap (λ name. not (is_among name c.args.current.now.instances)) c.as_bytes.ensures) (search rules) in
    let new : is_among made.name (map own_name o.subckt.instances) ≡ false = ap (is_among made.name) (sym c.requires) ∙ other in
    placed_new o c.args.line c.args.words made.name made.nodes made.of c.in-Some.ensures new
    ∙ (λ i. Ok (record {
      line = c.args.current.now.line;
      subckt = record { name = o.subckt.name; ports = o.subckt.ports; instances = sym c.in_ok-push.ensures.ok i; raw = o.subckt.raw };
    }))
