-- The written subcircuits can be written, and are read back.
use Rattle.std.proofs.Common.{◌≡◌, ℕ, ◌<◌, true, List, ◌++◌, map, refl, sym, subst, ◌∙◌, arith}
use Rattle.std.specs.Prelude.{codes}
use Rattle.std.specs.List.{AllByRecursion}
use Rattle.std.proofs.lemmas.List.{map-id}
use Rattle.netlist.specs.declared.deck.Instance.{Instance}
use Rattle.spice_text.specs.Words.{lower}
use Rattle.spice_text.specs.Writable.{IsName, IsWritableSubckt, AreWritable, Differ}
use Rattle.spice_text.proofs.AppendedText.{appended_is_read}
use Rattle.spice_text.proofs.ReadDecks.{decks_are_lowered}
use Rattle.row_laws.proofs.NewLaws.{names_new}
use Rattle.row_laws.proofs.LookLaws.{all_append}
use Rattle.cell_roles.specs.declared.role.Role.{Role}
use Rattle.sram_netlist.specs.Organization.{Organization, bank_rows, IsBuildable}
use Rattle.sram_netlist.specs.BitCells.{BitCells, row_kinds, row_name}
use Rattle.sram_netlist.specs.InstanceList.{tabulate}
use Rattle.sram_deck.specs.Deck.{made_subckt, row_subckt, other_subckts, written_subckts, row_ports, row_instances, array_ports, array_instances, pre_ports, pre_instances, data_ports, data_instances, bank_ports, bank_instances, logic_ports, logic_instances, top_ports, top_instances}
use Rattle.sram_rows.specs.Writing.{AreBitNames, WrittenSubcktsAreWritable, WrittenSubcktsAreRead}
use Rattle.sram_rows.proofs.DigitLaws.{IsPlain, are_plain, plain_all, name_bytes}
use Rattle.sram_rows.proofs.DifferLaws.{DifferBy, differ_names}
use Rattle.sram_rows.proofs.RowKinds.{kinds_few, some_rows, names_differ}
use Rattle.sram_rows.proofs.Segments.{all_tabulate}
use Rattle.sram_rows.proofs.InstancesDiffer.{name_of_instance, row_instances_differ, array_instances_differ, pre_instances_differ, data_instances_differ, bank_instances_differ, logic_instances_differ, top_instances_differ}
use Rattle.sram_rows.proofs.PortsDiffer.{row_differ, array_differ, pre_differ, data_differ, bank_differ, logic_differ, top_differ}
use Rattle.sram_rows.proofs.PlainNames.{few_rows, array_plain, pre_plain, data_plain}
use Rattle.sram_rows.proofs.PlainPorts.{row_plain, bank_plain, logic_plain, top_plain}
use Rattle.sram_rows.proofs.WritableInstances.{IsPlainInstance, plain_names, plain_instances, instances_differ, name_behind, row_behind, row_plain_instances, array_plain_instances, pre_plain_instances, data_plain_instances, bank_plain_instances, logic_plain_instances, top_plain_instances}

ports_differ : (ns : List (List ℕ)) → AllByRecursion IsPlain ns → DifferBy (λ n. n) ns → Differ (map lower ns)
ports_differ ns plain d = subst Differ (map-id ns ∙ sym (plain_all ns plain)) (differ_names (λ n. n) ns d)

writable : (name : List ℕ) (ports : List (List ℕ)) (is : List Instance) → IsName name → AllByRecursion IsPlain ports → DifferBy (λ n. n) ports → AllByRecursion IsPlainInstance is → DifferBy name_of_instance is
    → IsWritableSubckt (made_subckt name ports is)
writable name ports is named plain differ plain_is differ_is = record {
  name = named;
  ports = plain_names ports plain;
  ports_differ = ports_differ ports plain differ;
  instances = plain_instances is plain_is;
  instances_differ = instances_differ is plain_is differ_is;
  no_raw = refl;
}

module _ (plan : Organization) (cell : Role → List ℕ) (bits : BitCells) (n : List ℕ) (p : IsBuildable plan) (cells : (r : Role) → IsName (cell r)) (bit_names : AreBitNames plan bits) (name : IsName n) where
  -- a name that begins as the output name
  named : (s : List ℕ) → are_plain s ≡ true → IsName (n ++ s)
  named s plain = name_behind n s name (name_bytes s plain)

  rows_writable : AllByRecursion IsWritableSubckt (tabulate (row_kinds bits (bank_rows plan)) (row_subckt plan cell bits n))
  rows_writable = all_tabulate IsWritableSubckt (row_kinds bits (bank_rows plan)) (row_subckt plan cell bits n) (λ r among.
      let few = kinds_few bits (bank_rows plan) (some_rows plan) in
      let lt : r < bank_rows plan = omega (arith, few, among) in
      writable (row_name bits n r) (row_ports plan) (row_instances plan cell bits r) (row_behind bits n r (few_rows plan p r lt) name) (row_plain plan p) (row_differ plan p) (row_plain_instances plan p cell bits n cells bit_names name r lt) (row_instances_differ plan p cell bits n r))

  others_writable : AllByRecursion IsWritableSubckt (other_subckts plan cell bits n)
  others_writable = (
    writable (n ++ codes "_array") (array_ports plan) (array_instances plan bits n) (named (codes "_array") refl) (array_plain plan p) (array_differ plan p) (array_plain_instances plan p cell bits n cells bit_names name) (array_instances_differ plan p cell bits n),
    (
      writable (n ++ codes "_pre") (pre_ports plan) (pre_instances plan cell) (named (codes "_pre") refl) (pre_plain plan p) (pre_differ plan p) (pre_plain_instances plan p cell bits n cells bit_names name) (pre_instances_differ plan p cell bits n),
      (
        writable (n ++ codes "_data") (data_ports plan) (data_instances plan cell) (named (codes "_data") refl) (data_plain plan p) (data_differ plan p) (data_plain_instances plan p cell bits n cells bit_names name) (data_instances_differ plan p cell bits n),
        (
          writable (n ++ codes "_bank") (bank_ports plan) (bank_instances plan n) (named (codes "_bank") refl) (bank_plain plan p) (bank_differ plan p) (bank_plain_instances plan p cell bits n cells bit_names name) (bank_instances_differ plan p cell bits n),
          (
            writable (n ++ codes "_logic") (logic_ports plan) (logic_instances plan cell) (named (codes "_logic") refl) (logic_plain plan p) (logic_differ plan p) (logic_plain_instances plan p cell bits n cells bit_names name) (logic_instances_differ plan p cell bits n),
            (writable n (top_ports plan) (top_instances plan n) name (top_plain plan p) (top_differ plan p) (top_plain_instances plan p cell bits n cells bit_names name) (top_instances_differ plan p cell bits n), tt),
          ),
        ),
      ),
    ),
  )

  pub are_writable : AreWritable (written_subckts plan cell bits n)
  are_writable = record {
    each = all_append IsWritableSubckt (tabulate (row_kinds bits (bank_rows plan)) (row_subckt plan cell bits n)) (other_subckts plan cell bits n) rows_writable others_writable;
    differ = names_differ plan p cell bits n;
  }

pub written_are_writable : WrittenSubcktsAreWritable
written_are_writable plan cell bits n p cells bit_names name = are_writable plan cell bits n p cells bit_names name

pub written_are_read : WrittenSubcktsAreRead
written_are_read bytes d plan cell bits ends n read p leaves cells bit_names name =
    let new = names_new d.subckts (written_subckts plan cell bits n) (decks_are_lowered bytes d read) leaves.free in
    (new, appended_is_read bytes d (written_subckts plan cell bits n) read (are_writable plan cell bits n p cells bit_names name) new)
