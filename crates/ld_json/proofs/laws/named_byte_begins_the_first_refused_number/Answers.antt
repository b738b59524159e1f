use Rattle.ld_json.proofs.NumberLaws.{words_are_the_tokens, stand_at_their_places, places_ascend, named_is_first}
use Rattle.ld_json.proofs.laws.named_byte_begins_the_first_refused_number.Goals as goal

pub returns-clause-tokens : goal.returns-clause-tokens
returns-clause-tokens c = words_are_the_tokens

pub returns-clause-places : goal.returns-clause-places
returns-clause-places c = stand_at_their_places

pub returns-clause-ascending : goal.returns-clause-ascending
returns-clause-ascending c = places_ascend

pub returns-clause-first : goal.returns-clause-first
returns-clause-first c = named_is_first
