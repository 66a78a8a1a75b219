use Rattle.study.proofs.Retelling.{answer_told}
use Rattle.study.proofs.Soundness.{study_sound, answer_sound}
use Rattle.study.proofs.reading.read_study.Goals as goal

pub returns-clause-sound : goal.returns-clause-sound
returns-clause-sound c = answer_sound c.read_all.result c.args.text.now c.read_all.ensures

pub returns-clause-written : goal.returns-clause-written
returns-clause-written c = answer_told c.read_all.result c.args.text.now c.read_all.ensures

pub returns-clause-law_of_reading : goal.returns-clause-law_of_reading
returns-clause-law_of_reading c = study_sound
