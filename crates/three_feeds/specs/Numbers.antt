-- Internal: the numbers of a list of entries, as the code holds those of the table. Nothing is proved here.
use Rattle.std.specs.Prelude.{List, [], ◌∷◌, ◌++◌, ℤ}
use Rattle.three_feeds.specs.Rule.{entry_numbers}
use Rattle.three_feeds.specs.declared.TableEntry.{TableEntry}

-- the numbers of the entries, four to each
unfoldable pub numbers_of_all : List TableEntry → List ℤ
numbers_of_all [] = []
numbers_of_all (e ∷ es) = entry_numbers e ++ numbers_of_all es
