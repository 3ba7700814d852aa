-- Edges have an end, and modules a start.
use Rattle.std.proofs.Common.{List, refl, filter, flat_map}
use Rattle.std.proofs.lemmas.List.Sorted.{IsPermutation-refl}
use Rattle.verilog_modules.specs.Tree.{Always, Setting}
use Rattle.verilog_modules.specs.Meaning.{waits_for, updates, updated_all, set_all, unset, EdgesEnd, ModulesStart}

pub edges_end : EdgesEnd
edges_end m edge clock inputs s =
    let order = filter (waits_for edge clock) m.always in
    (updated_all m (flat_map (λ (a : Always). updates m inputs s a.body) order) s, record { order = order; blocks = IsPermutation-refl order; assigned = refl })

pub modules_start : ModulesStart
modules_start m = (set_all m (flat_map (λ (settings : List Setting). settings) m.initial) unset, record { order = m.initial; blocks = IsPermutation-refl m.initial; set = refl })
