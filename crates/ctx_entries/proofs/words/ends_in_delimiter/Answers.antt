use Rattle.std.proofs.Common.{ap, sym, ◌∙◌}
use Rattle.std.specs.Option.{option_copied}
use Rattle.ctx_model.specs.Words.{ends_in_delimiter}
use Rattle.ctx_entries.proofs.Delimiters.{last_decides}
use Rattle.ctx_entries.proofs.words.ends_in_delimiter.Goals as goal

pub returns-in-Some : goal.returns-in-Some
returns-in-Some c =
    c.is_delimiter.ensures ∙ sym (last_decides c.as_bytes.result.now c.in-Some.byte.now (sym c.last.ensures.value ∙ ap option_copied c.in-Some.is)) ∙ ap ends_in_delimiter c.as_bytes.ensures.value
