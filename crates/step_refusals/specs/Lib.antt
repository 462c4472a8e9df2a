pub mod ChallengeStep
