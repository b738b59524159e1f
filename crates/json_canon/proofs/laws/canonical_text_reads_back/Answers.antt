use Rattle.json_canon.proofs.ReadingBack.{reads_back}
use Rattle.json_canon.proofs.laws.canonical_text_reads_back.Goals as goal

pub returns : goal.returns
returns c = reads_back
