use Rattle.service.proofs.processor.Processor.prepare_record.Goals as goal

pub returns-clause-prepared : goal.returns-clause-prepared
returns-clause-prepared g c = λ h stood.
    let step = c.in_ok-answer.ensures.stands h stood in
    record { stands = step.0; counted = c.items-self.ensures.stands _ step.0; is_fed = step.1; text = c.in_ok-write_answer.ensures }
