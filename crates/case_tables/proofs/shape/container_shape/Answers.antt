use Rattle.std.proofs.Common.{◌≡◌, ap, ◌∙◌, sym, Some, None, drop, get_or, ◌+◌, true, false}
use Rattle.std.specs.Option.{option_and_then}
use Rattle.std.proofs.lemmas.List.{drop_all, at_drop_more}
use Rattle.case_tables.specs.declared.keyword.Keyword.TheVariants.{Base}
use Rattle.case_tables.specs.Shape.{is_allowed, with_word, with_words}
use Rattle.case_tables.proofs.Gather.{with_words_iff}
use Rattle.case_tables.proofs.shape.container_shape.Goals as goal

pub returns-in_err-shape-clause-words : goal.returns-in_err-shape-clause-words
returns-in_err-shape-clause-words c s =
    let words = with_words_iff c.args.words.now c.none-shape.result s c.none-shape.ensures in
    let more : with_words (drop c.loop-word.word-index c.args.words.now) c.loop-word.shape ≡ option_and_then (with_words (drop (c.loop-word.word-index + 1) c.args.words.now)) (with_word c.loop-word.shape (get_or c.args.words.now c.loop-word.word-index Base)) = at_drop_more (λ ws. with_words ws c.loop-word.shape) c.args.words.now c.loop-word.word-index Base c.loop-word-test.true in
    let none : with_words c.args.words.now c.none-shape.result ≡ None = sym c.loop-word.invariant ∙ more ∙ ap (option_and_then (with_words (drop (c.loop-word.word-index + 1) c.args.words.now))) (sym c.in_err-shape.ensures) in (
      λ h. absurd (let clash : None ≡ Some s = sym c.from_residual.ensures ∙ h in cc),
      λ h. absurd (let clash : None ≡ Some s = sym none ∙ words.1 h.0 in cc),
    )

pub returns-then-is_allowed-clause-words : goal.returns-then-is_allowed-clause-words
returns-then-is_allowed-clause-words c s =
    let words = with_words_iff c.args.words.now c.none-shape.result s c.none-shape.ensures in
    let made : with_words c.args.words.now c.none-shape.result ≡ Some c.loop-word.shape = sym c.loop-word.invariant ∙ ap (λ ws. with_words ws c.loop-word.shape) (drop_all c.loop-word.word-index c.args.words.now c.loop-word-test.false) in
    let allowed : is_allowed c.loop-word.shape ≡ true = sym c.is_allowed.ensures ∙ c.if-is_allowed.true in (
      λ h. (words.0 (made ∙ h), let same : c.loop-word.shape ≡ s = cc in ap is_allowed (sym same) ∙ allowed),
      λ h. sym made ∙ words.1 h.0,
    )

pub returns-else-is_allowed-clause-words : goal.returns-else-is_allowed-clause-words
returns-else-is_allowed-clause-words c s =
    let words = with_words_iff c.args.words.now c.none-shape.result s c.none-shape.ensures in
    let made : with_words c.args.words.now c.none-shape.result ≡ Some c.loop-word.shape = sym c.loop-word.invariant ∙ ap (λ ws. with_words ws c.loop-word.shape) (drop_all c.loop-word.word-index c.args.words.now c.loop-word-test.false) in
    let refused : is_allowed c.loop-word.shape ≡ false = sym c.is_allowed.ensures ∙ c.if-is_allowed.false in (
      λ h. absurd cc,
      λ h. absurd (
          let at : Some c.loop-word.shape ≡ Some s = sym made ∙ words.1 h.0 in
          let same : c.loop-word.shape ≡ s = cc in
          let clash : false ≡ true = sym refused ∙ ap is_allowed same ∙ h.1 in cc),
    )
