-- The data that values of the crate stand for.
use Rattle.std.specs.Option.{option_map}
use Rattle.ld_tree.specs.View.{view}
use Rattle.ctx_types.specs.Context.{Definition}
use Rattle.ctx_types.specs.declared.definition.TermDef.{TermDef}

-- A definition, its scoped context seen as a tree.
abbrev pub definition_view : TermDef → Definition
definition_view d =
    record {
      mapping = d.mapping;
      prefix = d.prefix;
      protected = d.protected;
      reverse = d.reverse;
      base = d.base;
      local = option_map view d.local;
      container = d.container;
      side = d.side;
      index = d.index;
      language = d.language;
      nest = d.nest;
      kind = d.kind;
    }
