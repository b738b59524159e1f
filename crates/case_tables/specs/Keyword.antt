use Rattle.std.specs.Prelude.{ℕ, List, codes}
use Rattle.case_tables.specs.declared.keyword.Keyword.{Keyword}
use Rattle.case_tables.specs.declared.keyword.Keyword.TheVariants.{Base, Container, Context, Direction, Graph, Id, Import, Included, Index, Json, Language, List as ListWord, Nest, NoneWord, Prefix, Propagate, Protected, Reverse, Set, TypeWord, Value, Version, Vocab}

-- how each keyword is written (JSON-LD 1.1, section 1.7)
abbrev pub keyword_name : Keyword → List ℕ
keyword_name Base = codes "@base"
keyword_name Container = codes "@container"
keyword_name Context = codes "@context"
keyword_name Direction = codes "@direction"
keyword_name Graph = codes "@graph"
keyword_name Id = codes "@id"
keyword_name Import = codes "@import"
keyword_name Included = codes "@included"
keyword_name Index = codes "@index"
keyword_name Json = codes "@json"
keyword_name Language = codes "@language"
keyword_name ListWord = codes "@list"
keyword_name Nest = codes "@nest"
keyword_name NoneWord = codes "@none"
keyword_name Prefix = codes "@prefix"
keyword_name Propagate = codes "@propagate"
keyword_name Protected = codes "@protected"
keyword_name Reverse = codes "@reverse"
keyword_name Set = codes "@set"
keyword_name TypeWord = codes "@type"
keyword_name Value = codes "@value"
keyword_name Version = codes "@version"
keyword_name Vocab = codes "@vocab"
