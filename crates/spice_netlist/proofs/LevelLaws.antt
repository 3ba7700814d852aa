-- Levels of the walk: what they see while the path changes behind the bytes that lead to them.
use Rattle.std.proofs.Common.{◌≡◌, ℕ, zero, suc, ◌<◌, ◌≤◌, List, [], ◌∷◌, ◌++◌, length, map, get_or, take, refl, sym, ap, subst, ◌∙◌, arith}
use denote.Ref.{Bor}
use Rattle.spice_netlist.specs.declared.resolved.ResolvedInstance.{ResolvedInstance}
use Rattle.spice_netlist.specs.declared.level.WalkLevel.{WalkLevel}
use Rattle.spice_netlist.specs.declared.level.LevelNet.{LevelNet}
use Rattle.spice_netlist.specs.Found.{found}
use Rattle.spice_netlist.specs.Levels.{level_key, AreWithinPath, view_of}

-- the level with these instances still to come
abbrev pub with_rest : WalkLevel → Bor (List ResolvedInstance) → WalkLevel
with_rest f rest = record { instances = rest; ports = f.ports; nets = f.nets; prefix = f.prefix }

take_less : (n limit : ℕ) (xs : List ℕ) → n ≤ limit → take n (take limit xs) ≡ take n xs
take_less zero limit xs le = refl
take_less (suc n) zero xs le = absurd (omega arith)
take_less (suc n) (suc limit) [] le = refl
take_less (suc n) (suc limit) (x ∷ xs) le = ap (λ (l : List ℕ). x ∷ l) (take_less n limit xs (omega arith))

pub take_again : (n : ℕ) (xs : List ℕ) → take n (take n xs) ≡ take n xs
take_again n xs = take_less n n xs (omega arith)

-- what has the same first bytes has the same fewer first bytes
pub front_same : (n limit : ℕ) (xs ys : List ℕ) → n ≤ limit → take limit xs ≡ take limit ys → take n xs ≡ take n ys
front_same n limit xs ys le same = sym (take_less n limit xs le) ∙ ap (take n) same ∙ take_less n limit ys le

pub near_at : (prefix : ℕ) (nets : List LevelNet) (k : ℕ) (n : LevelNet) → AreWithinPath prefix nets → k < length nets → n ≡ get_or nets k n → n.prefix ≤ prefix
near_at prefix [] k n near lt is = absurd (omega arith)
near_at prefix (m ∷ ms) zero n near lt is = subst (λ (x : LevelNet). x.prefix ≤ prefix) (sym is) near.0
near_at prefix (m ∷ ms) (suc k) n near lt is = near_at prefix ms k n near.1 (omega arith) is

pub near_push : (prefix : ℕ) (nets : List LevelNet) (n : LevelNet) → AreWithinPath prefix nets → n.prefix ≤ prefix → AreWithinPath prefix (nets ++ n ∷ [])
near_push prefix [] n near le = (le, tt)
near_push prefix (m ∷ ms) n near le = (near.0, near_push prefix ms n near.1 le)

pub near_more : (prefix limit : ℕ) (nets : List LevelNet) → prefix ≤ limit → AreWithinPath prefix nets → AreWithinPath limit nets
near_more prefix limit [] le near = tt
near_more prefix limit (n ∷ ns) le near = (omega (arith, near.0), near_more prefix limit ns le near.1)

-- nets that are near have the same texts while the first bytes of the path stay
pub texts_same : (prefix : ℕ) (net net' : List ℕ) → take prefix net ≡ take prefix net' → (nets : List LevelNet) → AreWithinPath prefix nets → map (level_key net) nets ≡ map (level_key net') nets
texts_same prefix net net' same [] near = refl
texts_same prefix net net' same (n ∷ ns) near = λ i. (front_same n.prefix prefix net net' near.0 same i ++ n.name.now) ∷ texts_same prefix net net' same ns near.1 i

pub view_same : (path path' net net' : List ℕ) (f : WalkLevel) → take f.prefix path ≡ take f.prefix path' → take f.prefix net ≡ take f.prefix net' → AreWithinPath f.prefix f.nets.items → view_of path net f ≡ view_of path' net' f
view_same path path' net net' f p n near = λ i. record { path = p i; inside = n i; find = found f.ports.now; nets = texts_same f.prefix net net' n f.nets.items near i }

-- a level with other instances sees the same
pub view_keeps : (path net : List ℕ) (f f' : WalkLevel) → f'.ports.now ≡ f.ports.now → f'.nets.items ≡ f.nets.items → f'.prefix ≡ f.prefix → view_of path net f' ≡ view_of path net f
view_keeps path net f f' p n w = λ i. record { path = take (w i) path; inside = take (w i) net; find = found (p i); nets = map (level_key net) (n i) }
