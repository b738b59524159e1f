-- Each of them stands in the list of all.
use Rattle.std.proofs.Common.{refl, Contains, lit<}
use Rattle.case_tables.specs.declared.keyword.Keyword.{Keyword}
use Rattle.case_tables.specs.declared.keyword.Keyword.TheVariants.{Base, Container, Context, Direction, Graph, Id, Import, Included, Index, Json, Language, List as ListWord, Nest, NoneWord, Prefix, Propagate, Protected, Reverse, Set, TypeWord, Value, Version, Vocab}
use Rattle.case_tables.specs.declared.keyword.TheConstants.{KEYWORDS}

pub is_listed : (k : Keyword) → Contains KEYWORDS k
is_listed Base = (0, lit< tt, refl)
is_listed Container = (1, lit< tt, refl)
is_listed Context = (2, lit< tt, refl)
is_listed Direction = (3, lit< tt, refl)
is_listed Graph = (4, lit< tt, refl)
is_listed Id = (5, lit< tt, refl)
is_listed Import = (6, lit< tt, refl)
is_listed Included = (7, lit< tt, refl)
is_listed Index = (8, lit< tt, refl)
is_listed Json = (9, lit< tt, refl)
is_listed Language = (10, lit< tt, refl)
is_listed ListWord = (11, lit< tt, refl)
is_listed Nest = (12, lit< tt, refl)
is_listed NoneWord = (13, lit< tt, refl)
is_listed Prefix = (14, lit< tt, refl)
is_listed Propagate = (15, lit< tt, refl)
is_listed Protected = (16, lit< tt, refl)
is_listed Reverse = (17, lit< tt, refl)
is_listed Set = (18, lit< tt, refl)
is_listed TypeWord = (19, lit< tt, refl)
is_listed Value = (20, lit< tt, refl)
is_listed Version = (21, lit< tt, refl)
is_listed Vocab = (22, lit< tt, refl)
