use Rattle.std.proofs.Common.{◌≡◌, ap, ◌∙◌, Some, None, sym}
use Rattle.std.specs.List.{slice_get}
use Rattle.case_tables.proofs.EveryKeyword.{is_listed}
use Rattle.case_tables.proofs.Numbered.{found_value, named_value}
use Rattle.case_tables.specs.Keyword.{keyword_name}
use Rattle.case_tables.specs.declared.keyword.TheConstants.{KEYWORDS}
use Rattle.case_tables.proofs.keyword.keyword_of.Goals as goal

pub returns-in_err-number-clause-listed : goal.returns-in_err-number-clause-listed
returns-in_err-number-clause-listed c k named =
    let found = found_value keyword_name KEYWORDS c.keyword_table.result c.args.text.now c.find.result c.keyword_table.ensures c.find.ensures k (is_listed k) named in
    absurd (let e : Some found.0 ≡ None = sym found.1 ∙ c.in_err-number.was in cc)

pub returns-clause-listed : goal.returns-clause-listed
returns-clause-listed c k named =
    let found = found_value keyword_name KEYWORDS c.keyword_table.result c.args.text.now c.find.result c.keyword_table.ensures c.find.ensures k (is_listed k) named in
    let same : c.in_ok-number.number ≡ found.0 = let e : Some c.in_ok-number.number ≡ Some found.0 = sym c.in_ok-number.was ∙ found.1 in cc in
    c.keyword_at.ensures ∙ ap (slice_get KEYWORDS) same ∙ found.2

pub returns-clause-named : goal.returns-clause-named
returns-clause-named c =
    rw c.keyword_at.ensures (named_value keyword_name KEYWORDS c.keyword_table.result c.args.text.now c.find.result c.keyword_table.ensures c.find.ensures c.in_ok-number.number c.in_ok-number.was)
