-- The set of names has the name of the subcircuit that is done.
use Rattle.std.proofs.Common.{map, sym, ap, ◌∙◌, ◌∷◌, []}
use Rattle.std.proofs.lemmas.List.{map-append}
use Rattle.spice_text.specs.Words.{is_among, with_name}
use Rattle.spice_text.specs.Subcircuits.{name_of}
use Rattle.spice_text.proofs.NameLaws.{among_more}
use Rattle.spice_text.proofs.reading.add_done.Goals as goal

pub returns-clause-named : goal.returns-clause-named
returns-clause-named c = record {
  done = λ name.
      ap (is_among name) (c.in_ok-add.ensures.names ∙ ap (with_name c.args.reading.now.names) c.as_bytes.ensures)
      ∙ among_more c.args.reading.now.names (map name_of c.args.reading.now.done) c.args.subckt.name c.requires.done name
      ∙ ap (is_among name) (sym (ap (map name_of) c.in_ok-push.ensures.ok ∙ map-append name_of c.args.reading.now.done (c.args.subckt ∷ [])));
  current = c.requires.current;
}
