-- The keywords that a plain document and its node map use (JSON-LD 1.1, section 1.7).
use Rattle.std.specs.Prelude.{ℕ, List, codes}

abbrev pub id_key : List ℕ
id_key = codes "@id"

abbrev pub value_key : List ℕ
value_key = codes "@value"

abbrev pub graph_key : List ℕ
graph_key = codes "@graph"

abbrev pub default_graph : List ℕ
default_graph = codes "@default"
