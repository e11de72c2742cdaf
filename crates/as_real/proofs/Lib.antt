mod FaultLaws
