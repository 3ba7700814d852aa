-- Loose contacts, told by entries.
use Rattle.std.proofs.Common.{◌≡◌, ◌↔◌, ℕ, List, [], map, Option, Some, None, sym, ap, subst, ◌∙◌, arith}
use Rattle.std.specs.Prelude.{Contains}
use Rattle.std.specs.Option.{option_copied}
use Rattle.std.proofs.lemmas.List.{append-nil}
use Rattle.std.proofs.lemmas.Option.{same_Some}
use Rattle.or_geom.specs.declared.shape.Shape.{Shape}
use Rattle.or_geom.specs.Gathering.{SomeHas}
use Rattle.or_geom.proofs.GatheringLaws.{some_has, who_has}
use Rattle.tech_rules.specs.declared.tech.Layer.{Layer}
use Rattle.tech_rules.specs.declared.tech.Tech.{Tech}
use Rattle.cell_chains.specs.Hierarchy.{IsCellOf}
use Rattle.leaf_contacts.specs.Contact.{leaf_cell_names, StandsOutside, HasLooseContact}
use Rattle.leaf_contacts.specs.declared.cells.ReachedCells.{ReachedCells}
use Rattle.leaf_contacts.specs.declared.stand.Stand.{Stand}
use Rattle.leaf_contacts.specs.declared.stand.ReferenceStep.{ReferenceStep}
use Rattle.leaf_contacts.specs.Chains.{Reference, IsInstance, StandsAtEnd}
use Rattle.leaf_contacts.specs.Marks.{HasContactAt, IsContactOf, IsContactWith, IsListedElsewhere, ShapeEntry, shape_entry}
use Rattle.leaf_contacts.specs.Stands.{IsInInstance, IsStandOf, reference_step}
use Rattle.leaf_contacts.proofs.CellLaws.{name_once}
use Rattle.leaf_contacts.proofs.ChainLaws.{chain_once, instance_leaf, instance_leads, leads_once}
use Rattle.leaf_contacts.proofs.CountLaws.{leaf_counts}
use Rattle.leaf_contacts.proofs.EntryLaws.{IsEntered, along_moved, moved_along, entry_stands, stands_entry, in_instance, from_instance}
use Rattle.leaf_contacts.proofs.ItemLaws.{chain_short}

-- an entry of another instance stands outside of this one
elsewhere_outside : (tech : Tech) (tree : ReachedCells) (stands : List Stand) (entries : List ShapeEntry) (chain : List Reference) (to : List ℕ) (s : Shape) → tree.layers.now ≡ tech.layers → IsEntered tree stands entries → IsInstance (leaf_cell_names tree.leaves.now) tree.structs.now tree.top.now chain to
    → IsListedElsewhere entries s (Some (map reference_step chain)) → StandsOutside tech tree.structs.now tree.top.now chain s
elsewhere_outside tech tree stands entries chain to s layers all instance there =
    let f = entry_stands tree stands entries (shape_entry s there.other) all there.listed in
    record {
      other = f.chain;
      stands = subst (λ (ls : List Layer). StandsAtEnd ls tree.structs.now tree.top.now f.chain s) layers f.stands;
      outside = λ rest is. there.differs (from_instance tree f.chain chain rest to there.other instance is f.within);
    }

-- and the other way round
outside_elsewhere : (tech : Tech) (tree : ReachedCells) (stands : List Stand) (entries : List ShapeEntry) (chain : List Reference) (to : List ℕ) (s : Shape) → tree.layers.now ≡ tech.layers → IsEntered tree stands entries → IsInstance (leaf_cell_names tree.leaves.now) tree.structs.now tree.top.now chain to
    → StandsOutside tech tree.structs.now tree.top.now chain s → IsListedElsewhere entries s (Some (map reference_step chain))
outside_elsewhere tech tree stands entries chain to s layers all instance out =
    let f = stands_entry tree stands entries out.other s all (subst (λ (ls : List Layer). StandsAtEnd ls tree.structs.now tree.top.now out.other s) (sym layers) out.stands) in
    record {
      other = f.instance;
      listed = f.listed;
      differs = λ same. let h = in_instance tree out.other chain to f.instance instance f.within same in out.outside h.0 h.1;
    }

-- the chain of a stand that is an instance is one to its cell
stand_instance : (tree : ReachedCells) (chain : List Reference) (stand : Stand) → (is : IsStandOf tree chain stand) → (o : Option (List ReferenceStep)) → IsInInstance (leaf_cell_names tree.leaves.now) tree.structs.now tree.top.now chain o → o ≡ Some stand.steps.now
    → IsInstance (leaf_cell_names tree.leaves.now) tree.structs.now tree.top.now chain is.name
stand_instance tree chain stand is None within same = absurd (cc)
stand_instance tree chain stand is (Some steps) within same =
    let cells = leaf_cell_names tree.leaves.now in
    let structs = tree.structs.now in
    let top = tree.top.now in
    let one = chain_once structs top within.inner chain within.to is.name (instance_leads cells structs top within.inner within.to within.instance) is.leads (sym within.told ∙ (same_Some _ _ same ∙ is.steps)) in
    let instance : IsInstance cells structs top chain within.to = subst (λ (c : List Reference). IsInstance cells structs top c within.to) one within.instance in
    subst (IsInstance cells structs top chain) (leads_once structs top chain within.to is.name (instance_leads cells structs top chain within.to instance) is.leads) instance

-- a contact at a stand is one of the layout
contact_from : (tech : Tech) (tree : ReachedCells) (stands : List Stand) (entries : List ShapeEntry) (stand : Stand) → tree.layers.now ≡ tech.layers → IsEntered tree stands entries → Contains stands stand → HasContactAt tech.connects tree entries stand
    → HasLooseContact tech tree.structs.now tree.top.now tree.leaves.now
contact_from tech tree stands entries stand layers all listed at =
    let c = all.stands_are.each stand listed in
    let is = c.1 in
    let instance = stand_instance tree c.0 stand is (option_copied stand.instance) is.instance at.instance in
    let leaf = who_has (IsContactWith tech.connects tree entries stand) tree.leaves.now at.leaf in
    let loose = who_has (IsContactOf tech.connects entries stand) leaf.0.shapes leaf.2.contact in
    let contact = loose.2 in
    let named = name_once tree.structs.now tree.cells.now stand.cell is.name leaf.0.cell is.cell leaf.2.cell in
    let to = subst (IsInstance (leaf_cell_names tree.leaves.now) tree.structs.now tree.top.now c.0) named instance in
    record {
      chain = c.0;
      shape = contact.shape;
      loose = record { leaf = leaf.0; listed = leaf.1; instance = to; inner = loose.0; loose = loose.1; moved = moved_along tree c.0 stand loose.0 contact.shape is contact.moved };
      other = contact.touches.other;
      outside = elsewhere_outside tech tree stands entries c.0 leaf.0.cell contact.touches.other layers all to
          (subst (λ (l : List ReferenceStep). IsListedElsewhere entries contact.touches.other (Some l)) is.steps contact.touches.elsewhere);
      touch = contact.touches.touch;
    }

-- and the other way round
contact_to : (tech : Tech) (tree : ReachedCells) (stands : List Stand) (entries : List ShapeEntry) → tree.layers.now ≡ tech.layers → IsEntered tree stands entries → HasLooseContact tech tree.structs.now tree.top.now tree.leaves.now
    → SomeHas (HasContactAt tech.connects tree entries) stands
contact_to tech tree stands entries layers all h =
    let cells = leaf_cell_names tree.leaves.now in
    let structs = tree.structs.now in
    let top = tree.top.now in
    let loose = h.loose in
    let leads = instance_leads cells structs top h.chain loose.leaf.cell loose.instance in
    let short = chain_short structs top h.chain loose.leaf.cell all.sound leads in
    let st = all.stands_are.all h.chain loose.leaf.cell (omega (arith, short)) leads (leaf_counts tree loose.leaf.cell all.tree_is (instance_leaf cells structs top h.chain loose.leaf.cell loose.instance)) in
    let named = leads_once structs top h.chain st.is.name loose.leaf.cell st.is.leads leads in
    some_has (HasContactAt tech.connects tree entries) stands st.stand st.listed (record {
      instance = from_instance tree h.chain h.chain [] loose.leaf.cell (option_copied st.stand.instance) loose.instance (sym (append-nil h.chain)) st.is.instance ∙ ap Some (sym st.is.steps);
      leaf = some_has (IsContactWith tech.connects tree entries st.stand) tree.leaves.now loose.leaf loose.listed (record {
        cell = subst (IsCellOf structs tree.cells.now st.stand.cell) named st.is.cell;
        contact = some_has (IsContactOf tech.connects entries st.stand) loose.leaf.shapes loose.inner loose.loose (record {
          shape = h.shape;
          moved = along_moved tree h.chain st.stand loose.inner h.shape st.is loose.moved;
          touches = record {
            other = h.other;
            elsewhere = subst (λ (l : List ReferenceStep). IsListedElsewhere entries h.other (Some l)) (sym st.is.steps) (outside_elsewhere tech tree stands entries h.chain loose.leaf.cell h.other layers all loose.instance h.outside);
            touch = h.touch;
          };
        });
      });
    })

pub contacts_are : (tech : Tech) (tree : ReachedCells) (stands : List Stand) (entries : List ShapeEntry) → tree.layers.now ≡ tech.layers → IsEntered tree stands entries
    → SomeHas (HasContactAt tech.connects tree entries) stands ↔ HasLooseContact tech tree.structs.now tree.top.now tree.leaves.now
contacts_are tech tree stands entries layers all = (
  (λ some. let w = who_has (HasContactAt tech.connects tree entries) stands some in contact_from tech tree stands entries w.0 layers all w.1 w.2),
  (λ h. contact_to tech tree stands entries layers all h),
)
