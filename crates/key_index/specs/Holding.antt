-- The atoms of a key, as it holds them.
use Rattle.std.specs.Prelude.{List, [], ◌∷◌}
use Rattle.ae_base.specs.Atoms.{Atom}
use Rattle.key_index.specs.declared.keys.Held.{Held}
use Rattle.key_index.specs.declared.keys.Held.TheVariants.{One, Many}

abbrev pub atoms_of : {K : Type 0} → Held K → List Atom
atoms_of (One atom) = atom ∷ []
atoms_of (Many atoms) = atoms.items
