mod TableStates
