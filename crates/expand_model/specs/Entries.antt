-- What the key of an entry stands for, and how its value is treated (JSON-LD 1.1 API, section 5.1.2, steps 13.1 to 13.9).
use Rattle.std.specs.Prelude.{◌&&◌, ◌||◌, Bool, true, false, List, [], ◌∷◌, Option, None, Some, codes, if◌then◌else◌}
use Rattle.std.specs.List.{list_any}
use Rattle.std.specs.Str.{bytes_eq}
use Rattle.ld_model.specs.Tree.{Tree}
use Rattle.iri_ref.specs.Parts.{colon}
use Rattle.case_tables.specs.Keyword.{keyword_name}
use Rattle.case_tables.specs.declared.keyword.Keyword.{Keyword as Word}
use Rattle.case_tables.specs.declared.keyword.Keyword.TheVariants as word
use Rattle.case_tables.specs.declared.shape.Shape.{Shape}
use Rattle.ctx_types.specs.Context.{Text, Definition, Settings}
use Rattle.ctx_types.specs.Expansion.{expand_iri, keywords}
use Rattle.expand_model.specs.declared.Name.{Name}
use Rattle.expand_model.specs.declared.Name.TheVariants.{Dropped, Keyword, Property}
use Rattle.expand_model.specs.declared.Task.{Task}
use Rattle.expand_model.specs.declared.Task.TheVariants.{Tells, Expands, Indexes}
use Rattle.expand_model.specs.Scope.{Scope, MapScope, is_top, is_map}
use Rattle.expand_model.specs.Values.{is_kind}

-- The keyword among these that a text is.
abbrev pub word_among : Text → List Word → Option Word
word_among t [] = None
word_among t (w ∷ ws) = if bytes_eq t (keyword_name w) then Some w else word_among t ws

-- What an IRI, a blank node identifier or a keyword is as the name of an entry: a text that is no keyword and has no colon names none.
abbrev pub property_named : Text → Name
property_named t = if list_any colon t then Property t else Dropped

abbrev pub name_as : Option Word → Text → Name
name_as None t = property_named t
name_as (Some w) t = Keyword w

abbrev pub name_by : Option Text → Name
name_by None = Dropped
name_by (Some t) = name_as (word_among t keywords) t

-- Steps 13.1 to 13.3: what a key stands for; `@context` was treated before.
unfoldable pub name_of : Settings → Text → Name
name_of c k = if bytes_eq k (codes "@context") then Dropped else name_by (expand_iri c false true k)

-- Step 13.4: the value of these keywords is expanded; that of `@list` not at the top of a graph, where it is dropped.
abbrev pub keyword_task : Option Text → Word → Tree → Task
keyword_task p word.Graph t = Expands
keyword_task p word.Included t = Expands
keyword_task p word.List t = if is_top p then Tells else Expands
keyword_task p word.Set t = Expands
keyword_task p word.Reverse t = if is_map t then Expands else Tells
keyword_task p _ t = Tells

-- Steps 13.6 to 13.9: JSON literals and language maps are told as they stand.
abbrev pub container_task : Shape → Tree → Task
container_task s t = if is_map t && s.language then Tells else if is_map t && (s.index || s.types || s.id) then Indexes else Expands

abbrev pub property_task : Option Definition → Tree → Task
property_task None t = Expands
property_task (Some d) t = if is_kind (codes "@json") (Some d) then Tells else container_task d.container t

unfoldable pub task_of : Option Text → Option Definition → Name → Tree → Task
task_of p d Dropped t = Tells
task_of p d (Keyword w) t = keyword_task p w t
task_of p d (Property i) t = property_task d t

-- What the value is expanded with: the property that is active there. Nothing comes from a map of indexes.
abbrev pub property_under : Name → Text → Option Text → Option Text
property_under (Keyword word.Graph) k p = Some (codes "@graph")
property_under (Keyword word.Included) k p = None
property_under (Keyword word.List) k p = p
property_under (Keyword word.Set) k p = p
property_under (Keyword word.Reverse) k p = Some (codes "@reverse")
property_under _ k p = Some k

unfoldable pub under : Name → Text → MapScope → Scope
under n k m = record { context = m.context; property = property_under n k m.property; from_map = false }
