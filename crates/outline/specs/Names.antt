-- Declared names, apart from where their letters lie in memory.
use Rattle.std.specs.Prelude.{List, map, vec_items, Vec}
use Rattle.grammar.specs.Tree.{Primitive, int, bool}
use Rattle.grammar.specs.Tree as tree
use Rattle.outline.specs.declared.declared.Declared.{Declared}
use Rattle.outline.specs.declared.declared.Primitive as primitives
use Rattle.outline.specs.declared.declared.Primitive.TheVariants.{Int, Bool}
use Rattle.std.specs.declared.alloc.Global.{Global}

abbrev pub primitive_of : primitives.Primitive → Primitive
primitive_of Int = int
primitive_of Bool = bool

abbrev pub declared_of : Declared → tree.Declared
declared_of d = record { place = d.place; letters = d.name.now; refs = d.refs; primitive = primitive_of d.primitive }

-- the names that a vector holds
abbrev pub names : Vec Declared Global → List tree.Declared
names v = map declared_of (vec_items v)
