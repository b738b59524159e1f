-- The keywords that node map generation looks for (JSON-LD 1.1, section 1.7), beside those of `ld_model`.
use Rattle.std.specs.Prelude.{ℕ, List, codes}

abbrev pub type_key : List ℕ
type_key = codes "@type"

abbrev pub list_key : List ℕ
list_key = codes "@list"

abbrev pub index_key : List ℕ
index_key = codes "@index"

abbrev pub reverse_key : List ℕ
reverse_key = codes "@reverse"

abbrev pub included_key : List ℕ
included_key = codes "@included"
